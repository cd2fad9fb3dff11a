-- In each arm the word is the arm's own, since its length and its bytes are.
use Rattle.std.proofs.Common.{rules, codes}
use Rattle.std.proofs.lemmas.Slice.Eq.{text_from_reads}
use Rattle.sheet.proofs.draft.Draft.word.Goals as goal

pub returns-in-duty : goal.returns-in-duty
returns-in-duty c = rw (text_from_reads c.args.word.now (codes "duty") (search rules) (search rules)) (search rules)

pub returns-in-collection : goal.returns-in-collection
returns-in-collection c = rw (text_from_reads c.args.word.now (codes "collection") (search rules) (search rules)) (search rules)

pub returns-in-boxes : goal.returns-in-boxes
returns-in-boxes c = rw (text_from_reads c.args.word.now (codes "boxes") (search rules) (search rules)) (search rules)

pub returns-in-rule : goal.returns-in-rule
returns-in-rule c = rw (text_from_reads c.args.word.now (codes "rule") (search rules) (search rules)) (search rules)

pub returns-in-slide : goal.returns-in-slide
returns-in-slide c = rw (text_from_reads c.args.word.now (codes "slide") (search rules) (search rules)) (search rules)

pub returns-in-withdraw : goal.returns-in-withdraw
returns-in-withdraw c = rw (text_from_reads c.args.word.now (codes "withdraw") (search rules) (search rules)) (search rules)

pub returns-in-strike : goal.returns-in-strike
returns-in-strike c = rw (text_from_reads c.args.word.now (codes "strike") (search rules) (search rules)) (search rules)

pub returns-in-grant : goal.returns-in-grant
returns-in-grant c = rw (text_from_reads c.args.word.now (codes "grant") (search rules) (search rules)) (search rules)

pub returns-in-codes : goal.returns-in-codes
returns-in-codes c = rw (text_from_reads c.args.word.now (codes "codes") (search rules) (search rules)) (search rules)

pub returns-in-counts : goal.returns-in-counts
returns-in-counts c = rw (text_from_reads c.args.word.now (codes "counts") (search rules) (search rules)) (search rules)

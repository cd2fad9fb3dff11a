-- The answers to the lines of a sheet: how each is written, with the byte 10 that ends it.
use Rattle.std.specs.Prelude.{ℕ, ◌+◌, List, [], ◌∷◌, ◌++◌, codes, decimal, Some, None}
use Rattle.codes.specs.declared.set.CodeSet.{CodeSet}
use Rattle.codes.specs.Members.{members}
use Rattle.entry.specs.Refusals.{row_of}
use Rattle.reader.specs.declared.place.FaultKind.{FaultKind}
use Rattle.reader.specs.declared.place.FaultKind.TheVariants.{Bytes, Form}
use Rattle.tokens.specs.Lines.{listed}
use Rattle.settlement.specs.declared.verdict.Agreement.{Agreement}
use Rattle.answers.specs.declared.answer.Answer.{Answer}
use Rattle.answers.specs.declared.answer.Answer.TheVariants.{Duty, Collection, Boxes, Rule, Slide, Done, Blocked, Agreed, Refused, Fault}

-- words with one number behind them, and with two
abbrev pub one : List ℕ → ℕ → List ℕ
one words n = words ++ (decimal n ++ codes ")\n")

abbrev pub two : List ℕ → ℕ → ℕ → List ℕ
two words m n = words ++ (decimal m ++ ((32 ∷ decimal n) ++ codes ")\n"))

-- a day, and behind it its codes in rising order
abbrev pub group : ℕ → CodeSet → List ℕ
group day set = codes " (" ++ (decimal day ++ (listed (members set) ++ codes ")"))

-- a group for each of the days from `day` on
abbrev pub groups : ℕ → List CodeSet → List ℕ
groups day [] = []
groups day (set ∷ sets) = group day set ++ groups (day + 1) sets

-- both rosters, and the possible codes of each day
abbrev pub agreed : Agreement → List ℕ
agreed a =
    codes "(agreed (lean" ++ (listed a.lean ++ (codes ") (full" ++ (listed a.full
    ++ (codes ") (keep" ++ (groups 1 a.possible ++ codes "))\n")))))

abbrev pub fault_words : FaultKind → List ℕ
fault_words Bytes = codes "(fault bytes "
fault_words Form = codes "(fault form "

abbrev pub written : Answer → List ℕ
written (Duty days) = one (codes "(duty ") days
written (Collection days) = one (codes "(collection ") days
written (Boxes days) = one (codes "(boxes ") days
written (Rule number) = one (codes "(rule ") number
written (Slide (Some p)) = two (codes "(slide ") p.0 p.1
written (Slide None) = codes "(slide none)\n"
written Done = codes "(done)\n"
written Blocked = codes "(blocked)\n"
written (Agreed a) = agreed a.now
written (Refused e) = one (codes "(refused ") (row_of e).0
written (Fault f) = two (fault_words f.kind) f.place.line f.place.column

use Rattle.sheet.proofs.Reading.{begins, kept_mark, kept_word, kept_number, read_whole, read_fault}
use Rattle.sheet.proofs.sheet.read_line.Goals as goal

pub loop-text-init : goal.loop-text-init
loop-text-init c = begins c.args.tokens.now c.new-draft.result c.requires c.new-draft.ensures

pub loop-text-preserved-in-Open : goal.loop-text-preserved-in-Open
loop-text-preserved-in-Open c =
    let ensures = c.in_ok-next.ensures in
    kept_mark c.args.tokens.now c.loop-text.tokens c.next.new.self c.loop-text.draft c.in_ok-next.field-0 c.loop-text.invariant ensures.text ensures.token c.in-Open.is

pub loop-text-preserved-in-Word : goal.loop-text-preserved-in-Word
loop-text-preserved-in-Word c =
    let ensures = c.in_ok-next.ensures in
    kept_word c.args.tokens.now c.loop-text.tokens c.next.new.self c.loop-text.draft c.in_ok-next.field-0 c.loop-text.invariant ensures.text ensures.token c.word.new.self c.in-Word.text c.in-Word.place c.in-Word.is c.word.ensures

pub loop-text-preserved : goal.loop-text-preserved
loop-text-preserved c =
    let ensures = c.in_ok-next.ensures in
    kept_number c.args.tokens.now c.loop-text.tokens c.next.new.self c.loop-text.draft c.in_ok-next.field-0 c.loop-text.invariant ensures.text ensures.token c.number.new.self c.in-Number.digits c.in-Number.place c.in-Number.is c.number.ensures

pub returns-in-End : goal.returns-in-End
returns-in-End c =
    let ensures = c.in_ok-next.ensures in
    read_whole c.args.tokens.now c.loop-text.tokens c.next.new.self c.loop-text.draft c.in_ok-next.field-0 c.loop-text.invariant ensures.text ensures.token c.in-End.is

pub returns-in_err-next : goal.returns-in_err-next
returns-in_err-next c =
    let ensures = c.in_err-next.ensures in
    read_fault c.args.tokens.now c.loop-text.tokens c.next.new.self c.loop-text.draft c.from_residual.result c.in_err-next.field-0.0 c.from_residual.ensures.1 c.loop-text.invariant ensures.token.0 ensures.token.1

use Rattle.std.proofs.Common.{take, ◌∙◌, subst}
use Rattle.std.proofs.lemmas.Option.{IfSome_then}
use Rattle.std.proofs.lemmas.Result.{on_ok_weaker}
use Rattle.carry.specs.Carrying.{Carries}
use Rattle.planner.proofs.answer.Goals as goal

-- what is written is carry's, of the sheet that was read
pub returns : goal.returns
returns g c =
    let bytes = take c.carry-carried.result.count c.carry-carried.new.answers in
    let e = c.carry-carried.result.ended in
    on_ok_weaker c.write_all.result
    (λ wrote. IfSome_then (g.R.Read.remaining c.args.reader) c.in_ok-sheet.ensures
    (λ input read. ∣ (
      bytes,
      e,
      subst (λ sheet. Carries sheet 65536 bytes e) (c.deref.ensures.value ∙ read) c.carry-carried.ensures.answers,
      wrote,
    ) ∣₁))
    c.write_all.ensures.bytes

use Rattle.std.proofs.Common.{rules, ◌≡◌, ◌≢◌, Some, true}
use mathlib.Core.Path.{refl, sym, ap, ◌∙◌}
use mathlib.Core.Logic.{inl}
use Rattle.reader.specs.Places.{fault_at, foreign}
use Rattle.tokens.proofs.Moves.{closes, foreign_fault}
use Rattle.tokens.proofs.tokens.Tokens.next.Goals as goal

pub returns-in-Some-clause-token : goal.returns-in-Some-clause-token
returns-in-Some-clause-token c =
    let (same, (blanks, other)) = c.in_ok-blanks.ensures in
    let here = sym c.peek.ensures ∙ c.in-Some.is in
    let not_blank : c.in-Some.field-0 ≢ 32 = λ e. other (here ∙ ap (λ b. Some b) e) in
    let bad : foreign c.in-Some.field-0 ≡ true = search rules in (
      foreign_fault c.args.self.now c.blanks.new.self c.in-Some.field-0 same here bad,
      c.fault.ensures ∙ ap (λ r. fault_at r.now c.blanks.new.self.reader.at) same.text,
      same.start,
      (c.blanks.new.self.reader.at, blanks, inl refl),
    )

pub returns-in_ok-end-in-None-clause-text : goal.returns-in_ok-end-in-None-clause-text
returns-in_ok-end-in-None-clause-text c = c.in_ok-end-in-None.ensures.text ∙ c.in_ok-blanks.ensures.0.text

pub returns-in_ok-end-in-None-clause-token : goal.returns-in_ok-end-in-None-clause-token
returns-in_ok-end-in-None-clause-token c =
    let (same, (blanks, other)) = c.in_ok-blanks.ensures in
    let end = c.in_ok-end-in-None.ensures in
    (closes c.args.self.now c.blanks.new.self c.end.new.self same blanks end, end.start)

use Rattle.std.proofs.Common.{◌≡◌, ◌≤◌, ℕ, List, length, rules, arith, Bor}
use Rattle.reader.specs.declared.state.State.TheVariants.{Text}
use Rattle.reader.proofs.States.{whole}
use Rattle.reader.proofs.reader.Reader.is_complete.Goals as goal

pub returns-in_default : goal.returns-in_default
returns-in_default c = (
  λ t. cc,
  λ h.
      let (r, is, over) = whole c.args.self.now.state c.args.self.now.apart h in
      let (s, now, some) : (s : Bor (List ℕ)) × (c.args.self.now.state ≡ Text s) × (1 ≤ length s.now) = search rules in
      let same : r ≡ s = cc in
      let none : length s.now ≡ 0 = cc in
      absurd (omega arith),
)

pub returns-in_default-2 : goal.returns-in_default-2
returns-in_default-2 c = (λ t. cc, λ h. let (r, is, over) = whole c.args.self.now.state c.args.self.now.apart h in grind arith)

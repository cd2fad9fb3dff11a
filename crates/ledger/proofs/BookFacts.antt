-- What adding rules makes of a book.
use Rattle.std.specs.Prelude.{◌≡◌, ℕ, ◌+◌, ◌-◌, List, [], ◌∷◌, ◌++◌}
use Rattle.std.proofs.Common.{append_assoc, arith}
use Rattle.std.proofs.lemmas.List.FromFn.{map-range_with_len_more}
use Rattle.ledger.specs.declared.rule.Rule.{Rule}
use Rattle.ledger.specs.Rules.{made, windows}

-- one window more
pub windows_more : (old : List Rule) (later width least most : ℕ)
    → (old ++ windows later width least most) ++ (made (later + 1) (later + width) least most ∷ []) ≡ old ++ windows (later + 1) width least most
windows_more old later width least most =
    let rule : ℕ → Rule = λ first. made first (first + width - 1) least most in
    let last : later + width ≡ later + 1 + width - 1 = omega arith in
    let more = map-range_with_len_more rule 1 later (later + 1) (omega arith) in
    cc (append_assoc old (windows later width least most) (rule (later + 1) ∷ []))

-- From the work on a text, and the line that its end has of its own, to what carry owes.
use Rattle.std.proofs.Common.{◌≡◌, ℕ, ◌+◌, ◌-◌, ◌^◌, ◌<◌, ◌≤◌, List, ◌++◌, length, take, drop, sym, ap, subst, ◌∙◌, arith}
use Rattle.std.proofs.Math.Logic.{∥∥₁_elim, ∥∥₁_map}
use Rattle.std.proofs.Math.Seq.{take-append_seam}
use Rattle.std.proofs.Props.{props}
use Rattle.carry.specs.declared.list.AnswerList.{AnswerList}
use Rattle.carry.specs.Carrying.{Answered, Carries}
use Rattle.carry.specs.Ends.{End, last_line}
use Rattle.carry.specs.AnswerLists.{Extends, WorksText, room}
use Rattle.carry.proofs.Lengths.{few_bytes}
use Rattle.carry.proofs.ListFacts.{extends_then, room_left}

module _ (text list : List ℕ) (s t : AnswerList) (e : End) (same : s.list.now ≡ list) (empty : s.count ≡ 0)
    (works : WorksText text s e t) where
  module _ (u : AnswerList) (closes : Extends t (last_line (room t) e) u) (final : List ℕ) (count : ℕ) (is : final ≡ u.list.now) (counted : count ≡ u.count) where
    -- all that is written, with what it makes of the list
    all_of : (bs : List ℕ) → Extends s bs t → Extends s (bs ++ last_line (room t) e) u
    all_of bs more = extends_then s t bs more u (last_line (room t) e) closes

    whole : (bytes : List ℕ) → Extends s bytes u → (count ≡ length bytes) × (count ≤ length list) × (final ≡ bytes ++ drop count list)
    whole bytes more =
        let long : count ≡ length bytes = omega (arith, counted, more.count, empty) in
        let from : s.count + length bytes ≡ count = omega (arith, long, empty) in
        let all = is ∙ more.bytes ∙ ap (λ n. take s.count s.list.now ++ (bytes ++ drop n s.list.now)) from in
        let bytes_are = all ∙ ap (λ n. take n s.list.now ++ (bytes ++ drop count s.list.now)) empty ∙ ap (λ xs. bytes ++ drop count xs) same in
        (long, omega (arith, more.fits, from, ap length same), bytes_are)

    front : (bytes : List ℕ) → Extends s bytes u → take count final ≡ bytes
    front bytes more =
        let (long, few, are) = whole bytes more in
        ap (take count) are ∙ ap (λ n. take n (bytes ++ drop count list)) long ∙ take-append_seam bytes (drop count list)

    pub carried_answers : Carries text (length list) (take count final) e
    carried_answers =
        ∥∥₁_map works.1 (λ (bs, more, answers).
        let all = all_of bs more in
        let space : room s ≡ length list = omega (arith, empty, ap length same) in (
          bs,
          subst (λ n. Answered text n bs e) space answers,
          front _ all ∙ ap (λ n. bs ++ last_line n e) (room_left s t bs more ∙ ap (λ n. n - length bs) space),
        ))

    pub carried_within : count ≤ length list
    carried_within = ∥∥₁_elim works.1 (hlevel props) (λ (bs, more, answers). (whole _ (all_of bs more)).1)

    pub carried_beyond : final ≡ take count final ++ drop count list
    carried_beyond =
        ∥∥₁_elim works.1 (hlevel props) (λ (bs, more, answers).
        let all = all_of bs more in
        (whole _ all).2 ∙ ap (λ bytes. bytes ++ drop count list) (sym (front _ all)))

    pub carried_few : count < 2 ^ 32
    carried_few =
        let few = few_bytes text (length list) (take count final) e carried_answers in
        ∥∥₁_elim works.1 (hlevel props) (λ (bs, more, answers).
        let all = all_of bs more in
        omega (arith, few, (whole _ all).0, ap length (front _ all)))

-- Writing one answer behind another.
use Rattle.std.proofs.Common.{◌≡◌, ℕ, ◌+◌, ◌-◌, List, [], ◌++◌, length, refl, sym, subst, ◌∙◌, arith, length-append}
use Rattle.std.specs.Prelude.{Ok, Err, IsErrAnd}
use Rattle.std.proofs.Math.Logic.{∥∥₁_elim}
use Rattle.std.proofs.Props.{props}
use Rattle.std.proofs.lemmas.Grind.{common_steps}
use Rattle.answers.proofs.PuttingFacts.{put_both}
use Rattle.carry.specs.declared.fault.CarryFault.{CarryFault}
use Rattle.carry.specs.declared.list.AnswerList.{AnswerList}
use Rattle.carry.specs.Ends.{End}
use Rattle.carry.specs.AnswerLists.{Extends, Writing, room}

-- what is told of a fault is told of an end with this fault
pub same_end : (P : End → Type 0) (e : End) (f : CarryFault) → IsErrAnd e (λ g. g ≡ f) → P (Err f) → P e
same_end P (Ok done) f told p = absurd told
same_end P (Err g) f told p = subst (λ g. P (Err g)) (sym told) p

pub extends_nothing : (s : AnswerList) → Extends s [] s
extends_nothing s = record {
  same_list = refl;
  fits = omega (arith, s.fits);
  count = omega arith;
  bytes = grind (arith, common_steps);
}

module _ (s t : AnswerList) (bs : List ℕ) (more : Extends s bs t) where
  -- the list is as long as before
  same_length : length t.list.now ≡ length s.list.now
  same_length = rw more.bytes (grind (arith, common_steps, more.fits))

  pub room_left : room t ≡ room s - length bs
  room_left = omega (arith, same_length, more.count, more.fits)

  pub extends_then : (u : AnswerList) (cs : List ℕ) → Extends t cs u → Extends s (bs ++ cs) u
  extends_then u cs further =
      let long = length-append bs cs in
      record {
        same_list = further.same_list ∙ more.same_list;
        fits = omega (arith, long, further.fits, more.count, same_length);
        count = omega (arith, long, further.count, more.count);
        bytes = let e : t.count + length cs ≡ s.count + length (bs ++ cs) = omega (arith, long, more.count) in
            rw (sym e) (put_both s.list.now t.list.now u.list.now s.count t.count _ bs cs (omega (arith, more.fits)) more.count refl (rw more.count more.bytes) further.bytes);
      }

-- what is written goes into one list
pub writes : (P : List ℕ → Type 0) (s t : AnswerList) → ∥ ((bs : List ℕ) × Extends s bs t × P bs) ∥₁ → Writing P s t
writes P s t written = (∥∥₁_elim written (hlevel props) (λ (bs, more, p). more.same_list), written)

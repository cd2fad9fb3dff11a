-- Putting bytes into a list piece by piece.
use Rattle.std.proofs.Common.{◌≡◌, ℕ, ◌+◌, ◌<◌, ◌≤◌, ◌^◌, List, [], ◌∷◌, ◌++◌, length, take, drop, sym, subst, decimal, refl, append_assoc, append-nil, arith, length-append}
use Rattle.std.proofs.lemmas.List.{length-take-le, drop-drop}
use Rattle.std.proofs.Math.Seq.{take-append_seam, drop-append-add, take-append-add}
use Rattle.codes.specs.declared.set.CodeSet.{CodeSet}
use Rattle.tokens.specs.Lines.{listed}
use Rattle.answers.specs.Answers.{group, groups}
use Rattle.answers.specs.Putting.{Puts}

-- what stands before and behind the end of the first piece, once it is put
before_end : (p bs d : List ℕ) (e : ℕ) → e ≡ length p + length bs → take e (p ++ (bs ++ d)) ≡ p ++ bs
before_end p bs d e eq = grind (arith, take-append-add p (bs ++ d) (length bs), take-append_seam bs d)

behind_end : (p bs d : List ℕ) (e k : ℕ) → e ≡ length p + (length bs + k) → drop e (p ++ (bs ++ d)) ≡ drop k d
behind_end p bs d e k eq = grind (arith, drop-append-add p (bs ++ d) (length bs + k), drop-append-add bs d k)

-- the second piece is put where the first ends
pub put_both : (l m n : List ℕ) (at e f : ℕ) (bs cs : List ℕ) → at ≤ length l → e ≡ at + length bs → f ≡ e + length cs
    → m ≡ take at l ++ (bs ++ drop e l) → n ≡ take e m ++ (cs ++ drop f m) → n ≡ take at l ++ (bs ++ cs ++ drop f l)
put_both l m n at e f bs cs within to on first second =
    let p = take at l in
    let long : length p ≡ at = length-take-le at l within in
    let before : take e m ≡ p ++ bs = rw first (before_end p bs (drop e l) e (omega arith)) in
    let behind : drop f m ≡ drop (length cs) (drop e l) = rw first (behind_end p bs (drop e l) f (length cs) (omega arith)) in
    let rest : drop (length cs) (drop e l) ≡ drop f l = rw on (drop-drop (length cs) e l) in
    grind (arith, before, behind, second, rest, append_assoc p bs (cs ++ drop f l), append_assoc bs cs (drop f l))

-- one piece behind another is both of them
pub puts_then : {l m n : List ℕ} {at e f : ℕ} {bs cs : List ℕ} → length l < 2 ^ 64 → Puts l at bs m e → Puts m e cs n f
    → Puts l at (bs ++ cs) n f
puts_then {l} {m} {n} {at} {e} {f} {bs} {cs} short first second =
    let long = length-append bs cs in
    record {
      ends = omega (arith, long, first.ends, second.ends);
      long = omega (arith, first.long, second.long);
      fits = λ within.
          let to : e ≡ at + length bs = omega (arith, long, first.ends) in
          let on : e + length cs ≡ at + length (bs ++ cs) = omega (arith, long, to) in
          let placed : m ≡ take at l ++ (bs ++ drop e l) = rw to (first.fits (omega (arith, long))) in
          let more = second.fits (omega (arith, first.long, on)) in
          rw (sym on) (put_both l m n at e _ bs cs (omega (arith, long)) to refl placed more);
    }

-- the same bytes in other words
pub puts_as : {l m : List ℕ} {at e : ℕ} {bs cs : List ℕ} → Puts l at bs m e → bs ≡ cs → Puts l at cs m e
puts_as {l} {m} {at} {e} done same = subst (λ bs. Puts l at bs m e) same done

listed-push : (ns : List ℕ) (n : ℕ) → listed (ns ++ (n ∷ [])) ≡ listed ns ++ (32 ∷ decimal n)
listed-push [] n = grind (arith, append-nil (decimal n))
listed-push (m ∷ ns) n = grind (arith, listed-push ns n, append_assoc (decimal m) (listed ns) (32 ∷ decimal n))

-- one number more behind those that are listed
pub puts_listed : {l m n : List ℕ} {at e f : ℕ} (ns : List ℕ) (number : ℕ) → length l < 2 ^ 64 → Puts l at (listed ns) m e
    → Puts m e (32 ∷ decimal number) n f → Puts l at (listed (ns ++ (number ∷ []))) n f
puts_listed ns number short first second = rw (listed-push ns number) (puts_then short first second)

groups-push : (day : ℕ) (sets : List CodeSet) (set : CodeSet)
    → groups day (sets ++ (set ∷ [])) ≡ groups day sets ++ group (day + length sets) set
groups-push day [] set =
    let same : day + 0 ≡ day = omega arith in
    rw same (append-nil (group day set))
groups-push day (first ∷ sets) set =
    let later : day + length (first ∷ sets) ≡ day + 1 + length sets = omega arith in
    let last = group (day + 1 + length sets) set in
    rw later (rw (groups-push (day + 1) sets set) (sym (append_assoc (group day first) (groups (day + 1) sets) last)))

-- the group of one day more behind those of the days before
pub puts_groups : {l m n : List ℕ} {at e f : ℕ} (sets : List CodeSet) (set : CodeSet) (day : ℕ)
    → day ≡ 1 + length sets → length l < 2 ^ 64 → Puts l at (groups 1 sets) m e → Puts m e (group day set) n f
    → Puts l at (groups 1 (sets ++ (set ∷ []))) n f
puts_groups sets set day next short first second = rw (groups-push 1 sets set) (puts_then short first (rw (sym next) second))

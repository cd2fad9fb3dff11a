-- A plan's system stays the plan's when a day or a rule is added to both.
use Rattle.std.proofs.Common.{◌≡◌, ℕ, ◌+◌, ◌-◌, ◌*◌, ◌<◌, ◌≤◌, ◌⊎◌, Bool, true, false, if◌then◌else◌, List, [], ◌∷◌, ◌++◌, All, Contains, length, map, take, slice_index_or, refl, ap, sym, ◌∙◌, inl, inr, ⊎_elim, arith, length-append}
use Rattle.std.proofs.Math.ListN.{get_or-append}
use Rattle.std.proofs.Math.Seq.{get_or-append_seam}
use Rattle.std.proofs.lemmas.Bool.{cases_lt, false_from_ne_true}
use Rattle.std.proofs.lemmas.Bool.Decides.{nat_tests}
use Rattle.std.proofs.lemmas.List.{append-nil, map-append, take_more}
use Rattle.std.proofs.lemmas.List.Sums.{sum_by-append, count_by-le-length}
use Rattle.std.proofs.lemmas.List.Elements.{All-append, All-cons, All-nil, All-weaker, Contains-append_left, Contains-append_right}
use Rattle.entry.specs.Cells.{Meaning, weigh}
use Rattle.entry.specs.Weights.{lightest, heaviest, Extreme}
use Rattle.limits.specs.declared.link.Link.{Link}
use Rattle.limits.specs.declared.link.Limit.{Limit}
use Rattle.limits.specs.declared.link.Limit.TheVariants.{Most, Least, Heaviest, Lightest}
use Rattle.limits.specs.Links.{heaviest_of, lightest_of, most_of, least_of}
use Rattle.limits.specs.Systems.{System, days, day_fits, with_day, rule_fits, with_rule}
use Rattle.ledger.specs.declared.rule.Rule.{Rule}
use Rattle.ledger.specs.Ledgers.{Kind, Ledger, day_of, with_rules}
use Rattle.ledger.specs.Rules.{Within, numbered, stands, no_rule}
use Rattle.plan.specs.Tables.{Has, line_of, InTable, count_in_force, Represents}
use Rattle.plan.specs.Building.{Builds}

-- the plan p has more limits than l, whose lines stay the same, and the system t has their lines beside the links of s
module _ (l p : Ledger) (s t : System) (new : List Link)
    (kept : (limit : Limit) → Has l limit → Has p limit × (line_of p limit ≡ line_of l limit))
    (fits : All (InTable p) new)
    (added : (limit : Limit) → Has p limit → Has l limit ⊎ Contains new (line_of p limit)) where
  still : (k : Link) → InTable l k → InTable p k
  still k (has, is) = let more = kept k.limit has in (more.0, is ∙ sym more.1)

  represents_more : days t ≡ length p.days → t.links ≡ s.links ++ new
      → length s.links + length new ≡ 2 * length p.days + 2 * count_in_force p.rules → Represents l s → Represents p t
  represents_more long links many r = record {
    days = long;
    known = rw links (All-append (InTable p) s.links new (All-weaker (InTable l) (InTable p) still s.links r.known) fits);
    whole = λ limit has.
        rw links (⊎_elim
        (λ old. let more = kept limit old in rw more.1 (Contains-append_left s.links new _ (r.whole limit old)))
        (Contains-append_right s.links new _) (added limit has));
    once = rw links (length-append s.links new ∙ many);
  }

all_two : (P : Link → Type 0) (a b : Link) → P a → P b → All P (a ∷ b ∷ [])
all_two P a b pa pb = All-cons P a (b ∷ []) pa (All-cons P b [] pb (All-nil P))

-- ---- a day more
-- what the items mean that are taken
pub map_take_more : {X Y : Type 0} (f : X → Y) (xs : List X) (k : ℕ) (x : X) → k < length xs → x ≡ slice_index_or xs k x
    → map f (take (k + 1) xs) ≡ map f (take k xs) ++ f x ∷ []
map_take_more f xs k x lt is =
    ap (map f) (take_more xs k x lt) ∙ map-append f (take k xs) _ ∙ ap (λ y. map f (take k xs) ++ f y ∷ []) (sym is)

-- no weight is above 63, so neither is the lightest or the heaviest
pub extreme_small : {Ahead : ℕ → ℕ → Type 0} (m : Meaning) (w : ℕ) → ((c : ℕ) → weigh m c ≤ 63) → Extreme Ahead m w → w ≤ 63
extreme_small m w low p =
    ⊎_elim
    (λ lt. let nothing = p.none (λ c. false_from_ne_true _ (λ t. let (k, h, e) = p.some c t in omega (arith, low k))) in omega arith)
    (λ le. le)
    (cases_lt 63 w)

module _ (kind : Kind) (ds : List Meaning) (m : Meaning) (s : System) where
  abbrev plan_of : List Meaning → Ledger
  plan_of days = record { kind = kind; days = days; rules = [] }

  abbrev less : Ledger
  less = plan_of ds

  abbrev more : Ledger
  more = plan_of (ds ++ m ∷ [])

  abbrev day_links : List Link
  day_links = heaviest_of (days s + 1) (heaviest m) ∷ lightest_of (days s + 1) (lightest m) ∷ []

  one_more : length (ds ++ m ∷ []) ≡ length ds + 1
  one_more = length-append ds (m ∷ [])

  kept_day : (limit : Limit) → Has less limit → Has more limit × (line_of more limit ≡ line_of less limit)
  kept_day (Most number) has = (has, refl)
  kept_day (Least number) has = (has, refl)
  kept_day (Heaviest day) (from, to) =
      ((from, omega (arith, one_more)), ap (λ x. heaviest_of day (heaviest x)) (get_or-append ds _ [] (day - 1) (omega arith)))
  kept_day (Lightest day) (from, to) =
      ((from, omega (arith, one_more)), ap (λ x. lightest_of day (lightest x)) (get_or-append ds _ [] (day - 1) (omega arith)))

  module _ (long : days s ≡ length ds) where
    -- the new day stands last
    last_day : (day : ℕ) → day ≡ days s + 1 → day_of more day ≡ m
    last_day day e = ap (λ k. slice_index_or (ds ++ m ∷ []) k []) (omega arith) ∙ get_or-append_seam ds m [] []

    fits_day : All (InTable more) day_links
    fits_day =
        all_two (InTable more) _ _
        ((omega arith, omega (arith, one_more)), ap (λ x. heaviest_of (days s + 1) (heaviest x)) (sym (last_day _ refl)))
        ((omega arith, omega (arith, one_more)), ap (λ x. lightest_of (days s + 1) (lightest x)) (sym (last_day _ refl)))

    added_day : (limit : Limit) → Has more limit → Has less limit ⊎ Contains day_links (line_of more limit)
    added_day (Most number) has = inl has
    added_day (Least number) has = inl has
    added_day (Heaviest day) (from, to) =
        ⊎_elim (λ lt. inl (from, omega arith))
        (λ le. let e : day ≡ days s + 1 = omega (arith, one_more) in inr (0, omega arith, cc (last_day day e)))
        (cases_lt day (length ds + 1))
    added_day (Lightest day) (from, to) =
        ⊎_elim (λ lt. inl (from, omega arith))
        (λ le. let e : day ≡ days s + 1 = omega (arith, one_more) in inr (1, omega arith, cc (last_day day e)))
        (cases_lt day (length ds + 1))

  with_day_fits : Builds less s → length ds < 128 → lightest m ≤ 63 → heaviest m ≤ 63 → day_fits s (lightest m) (heaviest m) ≡ true
  with_day_fits b few low high = let long = b.represents.days in let links = b.represents.once in grind (arith, nat_tests)

  pub builds_day : Builds less s → length ds < 128 → lightest m ≤ 63 → heaviest m ≤ 63
      → Builds more (if day_fits s (lightest m) (heaviest m) then with_day s (lightest m) (heaviest m) else s)
  builds_day b few low high =
      let long = b.represents.days in
      let links = b.represents.once in
      let marked : length (with_day s (lightest m) (heaviest m)).lightest ≡ length s.lightest + 1 = length-append s.lightest _ in
      let some = b.marked in
      rw (with_day_fits b few low high) (record {
        represents = represents_more less more s (with_day s (lightest m) (heaviest m)) day_links kept_day (fits_day long) (added_day long)
            (omega (arith, one_more)) refl (omega (arith, one_more)) b.represents;
        marked = omega arith;
      })

-- ---- a rule more
module _ (l : Ledger) (rs : List Rule) (r : Rule) (s : System) where
  abbrev shorter : Ledger
  shorter = with_rules l rs

  abbrev longer : Ledger
  longer = with_rules l (rs ++ r ∷ [])

  abbrev rule_links : List Link
  rule_links =
      most_of (length rs + 1) r.first r.last r.most ∷ least_of (length rs + 1) r.first r.last r.least ∷ []

  one_longer : length (rs ++ r ∷ []) ≡ length rs + 1
  one_longer = length-append rs (r ∷ [])

  counted : (b : Bool) → r.in_force ≡ b → count_in_force (rs ++ r ∷ []) ≡ count_in_force rs + (if b then 1 else 0)
  counted b is =
      let more : count_in_force (rs ++ r ∷ []) ≡ count_in_force rs + (if r.in_force then 1 else 0) =
      sum_by-append (λ x. if x.in_force then 1 else 0) rs (r ∷ []) ∙ omega arith in
      more ∙ ap (λ on. count_in_force rs + (if on then 1 else 0)) is

  -- a rule that stood stands still, the same
  stands_still : (n : ℕ) → stands rs n ≡ true → (stands (rs ++ r ∷ []) n ≡ true) × (numbered (rs ++ r ∷ []) n ≡ numbered rs n)
  stands_still n has =
      let same : numbered (rs ++ r ∷ []) n ≡ numbered rs n = get_or-append rs _ no_rule (n - 1) (grind (arith, nat_tests)) in
      (grind (arith, nat_tests, one_longer, same), same)

  -- the new rule stands last
  last_rule : (n : ℕ) → n ≡ length rs + 1 → numbered (rs ++ r ∷ []) n ≡ r
  last_rule n e = ap (λ k. slice_index_or (rs ++ r ∷ []) k no_rule) (omega arith) ∙ get_or-append_seam rs r [] no_rule

  -- a rule that stands stood before, or it is the new one
  stands_new : (n : ℕ) → stands (rs ++ r ∷ []) n ≡ true
      → (stands rs n ≡ true) ⊎ ((n ≡ length rs + 1) × (r.in_force ≡ true) × (numbered (rs ++ r ∷ []) n ≡ r))
  stands_new n has =
      ⊎_elim
      (λ lt. let same : 0 < n → numbered (rs ++ r ∷ []) n ≡ numbered rs n = λ h. get_or-append rs _ no_rule (n - 1) (omega arith) in
      inl (grind (arith, nat_tests, same)))
      (λ le. let e : n ≡ length rs + 1 = grind (arith, nat_tests, one_longer) in
      let last = last_rule n e in
      inr (e, grind (arith, nat_tests, last), last))
      (cases_lt n (length rs + 1))

  kept_rule : (limit : Limit) → Has shorter limit → Has longer limit × (line_of longer limit ≡ line_of shorter limit)
  kept_rule (Most n) has =
      let still = stands_still n has in (still.0, ap (λ x. most_of n x.first x.last x.most) still.1)
  kept_rule (Least n) has =
      let still = stands_still n has in (still.0, ap (λ x. least_of n x.first x.last x.least) still.1)
  kept_rule (Heaviest day) has = (has, refl)
  kept_rule (Lightest day) has = (has, refl)

  fits_rule : r.in_force ≡ true → All (InTable longer) rule_links
  fits_rule on =
      let new = last_rule (length rs + 1) refl in
      let stood : stands (rs ++ r ∷ []) (length rs + 1) ≡ true = grind (arith, nat_tests, one_longer, new, on) in
      all_two (InTable longer) _ _
      (stood, ap (λ x. most_of (length rs + 1) x.first x.last x.most) (sym new))
      (stood, ap (λ x. least_of (length rs + 1) x.first x.last x.least) (sym new))

  added_rule : (limit : Limit) → Has longer limit → Has shorter limit ⊎ Contains rule_links (line_of longer limit)
  added_rule (Most n) has =
      ⊎_elim inl (λ new. inr (0, omega arith, cc (new.0, new.2))) (stands_new n has)
  added_rule (Least n) has =
      ⊎_elim inl (λ new. inr (1, omega arith, cc (new.0, new.2))) (stands_new n has)
  added_rule (Heaviest day) has = inl has
  added_rule (Lightest day) has = inl has

  none_added : r.in_force ≡ false → (limit : Limit) → Has longer limit → Has shorter limit ⊎ Contains [] (line_of longer limit)
  none_added off (Most n) has = ⊎_elim inl (λ new. cc (off, new.1)) (stands_new n has)
  none_added off (Least n) has = ⊎_elim inl (λ new. cc (off, new.1)) (stands_new n has)
  none_added off (Heaviest day) has = inl has
  none_added off (Lightest day) has = inl has

  with_rule_fits : Builds shorter s → Within 128 63 r → r.last ≤ length l.days → length l.days ≤ 128 → length rs < 512
      → rule_fits s r.first r.last r.least r.most ≡ true
  with_rule_fits b in_bounds inside few room =
      let long = b.represents.days in
      let links = b.represents.once in
      let some = count_by-le-length (λ x. x.in_force) rs in
      grind (arith, nat_tests)

  pub builds_rule : (place : ℕ) → place ≡ length rs → r.in_force ≡ true → Builds shorter s → Within 128 63 r
      → r.last ≤ length l.days → length l.days ≤ 128 → length rs < 512
      → Builds longer (if rule_fits s r.first r.last r.least r.most then with_rule s (place + 1) r.first r.last r.least r.most else s)
  builds_rule place at on b in_bounds inside few room =
      let links = b.represents.once in
      let many = counted true on in
      rw (with_rule_fits b in_bounds inside few room, at) (record {
        represents = represents_more shorter longer s (with_rule s (length rs + 1) r.first r.last r.least r.most) rule_links kept_rule
            (fits_rule on) added_rule b.represents.days refl (omega arith) b.represents;
        marked = b.marked;
      })

  pub builds_withdrawn : r.in_force ≡ false → Builds shorter s → Builds longer s
  builds_withdrawn off b =
      let links = b.represents.once in
      let many = counted false off in
      record {
        represents = represents_more shorter longer s s [] kept_rule (All-nil (InTable longer)) (none_added off)
            b.represents.days (sym (append-nil s.links)) (omega arith) b.represents;
        marked = b.marked;
      }

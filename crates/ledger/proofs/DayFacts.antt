-- What a strike or a grant of one entry makes of the plan that the entry stands in.
use Rattle.std.specs.Prelude.{◌≡◌, ℕ, ◌-◌, ◌<◌, ◌≤◌, Bool, true, false, ◌||◌, ◌==◌, nat_lt, List, [], ◌∷◌, length, slice_index_or, slice_set, Some, None, Ok, Err, Option, Result, refl}
use Rattle.std.proofs.Common.{ap, subst, ◌∙◌, inl, inr, arith, length-set, MutBor}
use Rattle.std.specs.Fn.{Once, FnOnceReturnsAtMut}
use Rattle.std.proofs.lemmas.Bool.{cases_lt, cases_Bool}
use Rattle.std.proofs.lemmas.List.{length-map, get_or-map, get_or-set_other, map-set, set-get_or}
use Rattle.std.proofs.lemmas.Bool.Decides.{nat_tests}
use Rattle.entry.specs.declared.refusal.Refusal.{Refusal}
use Rattle.entry.specs.declared.refusal.Refusal.TheVariants.{TooManyDays, NoSuchDay}
use Rattle.entry.specs.declared.traits.Entry.{Ghosts}
use Rattle.entry.specs.Cells.{Meaning, held}
use Rattle.entry.specs.Edits.{struck, granted, strike_rows, grant_rows, Edited, Strikes, Grants}
use Rattle.entry.specs.Refusals.{Row, Rows, row, row_of, topmost, told, outcome, answered, unless}
use Rattle.ledger.specs.Rules.{Book}
use Rattle.ledger.specs.declared.call.Call.{Call}
use Rattle.ledger.specs.declared.call.Call.TheVariants.{Strike, Grant}
use Rattle.ledger.specs.Edits.{Already, EditsDay, OnDay}
use Rattle.ledger.specs.Ledgers.{Ledger, ledger, day_of, too_many_days, no_such_day, with_day, done, rows, answer, worked}

-- what a call shows that answers done or refuses
shows : (r : Result (Unit {0}) Refusal) (o : Option Row) → outcome r ≡ answered o tt → told (λ _. done) r ≡ answered o done
shows (Ok u) None same = refl
shows (Ok u) (Some row) same = cc
shows (Err e) None same = cc
shows (Err e) (Some row) same = cc

-- A call on a day that answers done: which rows judge the day's meaning, what the call makes of it, and when it asks for
-- what is so already.
record DayCall (call : Call) (day : ℕ) : Type 1 where
  judge : (ℕ → Bool) → Meaning → Rows
  edit : Meaning → Meaning
  So : (ℕ → Bool) → Meaning → Type 0
  judged : (l : Ledger) → rows l call ≡ (too_many_days l, row 1) ∷ (no_such_day l day, row 3) ∷ judge l.kind.known (day_of l day)
  edited : (l : Ledger) → worked l call ≡ with_day l day (edit (day_of l day))
  answers : (l : Ledger) → answer l call ≡ done
  already : (l : Ledger) → Already l call → So l.kind.known (day_of l day)

module _ {X : Type 0} (kind : Ghosts X) (xs : List X) (day : ℕ) (call : Call) (d : DayCall call day) where
  abbrev plan : Book → Ledger
  plan = ledger kind xs

  abbrev f : X → Meaning
  f = kind.meaning

  -- a row refuses
  refused : (e : Refusal) → ((book : Book) → topmost (rows (plan book) call) ≡ Some (row_of e)) → EditsDay kind call day xs (Err e) xs
  refused e top = record {
    answer = λ book. cc (top book);
    after = λ book. cc (top book);
    others = (refl, λ k d other. refl);
    kept = λ e. refl;
    idle = λ book a. refl;
  }

  -- x is the entry of a day that is there
  module _ (x : X) (few : length xs ≤ 128) (from : 0 < day) (to : day ≤ length xs) (copied : x ≡ slice_index_or xs (day - 1) x) where
    -- written back, it changes nothing
    back : slice_set xs (day - 1) x ≡ xs
    back = cc (set-get_or xs (day - 1) x)

    -- its meaning is the day's
    day_is : (book : Book) → f x ≡ day_of (plan book) day
    day_is book = cc (get_or-map f xs (day - 1) x [] (omega arith))

    -- neither the number of days nor the day refuses the call
    judged_by : (book : Book) → topmost (rows (plan book) call) ≡ topmost (d.judge kind.known (f x))
    judged_by book =
        let long = length-map xs f in
        ap topmost (d.judged (plan book)) ∙ rw (day_is book) (grind (arith, nat_tests))

    -- the ledger with y in its place, where y means what the rows leave
    changed : (book : Book) (o : Option Row) (new : Meaning) (y : X) → f y ≡ unless o new (f x)
        → ledger kind (slice_set xs (day - 1) y) book ≡ unless o (with_day (plan book) day new) (plan book)
    changed book None new y e = cc (map-set f xs (day - 1) y)
    changed book (Some row) new y e = cc (map-set f xs (day - 1) y, map-set f xs (day - 1) x, back)

    -- an edit of the entry is the call on the plan
    edits_day : (c : ℕ) (r : Result (Unit {0}) Refusal) (y : X)
        → Edited f c (d.judge kind.known (f x)) (d.edit (f x)) (d.So kind.known (f x)) x r y → EditsDay kind call day xs r (slice_set xs (day - 1) y)
    edits_day c r y e =
        let top = topmost (d.judge kind.known (f x)) in
        record {
          answer = λ book. cc (shows r top e.answer, judged_by book, d.answers (plan book));
          after = λ book. cc (changed book top (d.edit (f x)) y e.after, judged_by book, d.edited (plan book), day_is book);
          others = (length-set xs (day - 1) y, λ k d other. get_or-set_other xs (day - 1) k y d other);
          kept = λ refused. cc (e.refused refused, back);
          idle = λ book a. cc ((e.idle (rw (day_is book) (d.already (plan book) a))).1, back);
        }

  -- an edit of the entry of a day that may not be there; `given` is the day of which the edit was asked
  on_day : (Edit : X → Result (Unit {0}) Refusal → X → Type 0) (c : ℕ) (r : Result (Unit {0}) Refusal) (ys : List X)
      → ((x : X) (r : Result (Unit {0}) Refusal) (y : X) → Edit x r y
      → Edited f c (d.judge kind.known (f x)) (d.edit (f x)) (d.So kind.known (f x)) x r y)
      → (given : ℕ) → OnDay Edit given xs r ys → given ≡ day → EditsDay kind call day xs r ys
  on_day Edit c r ys means given asked same =
      let h : OnDay Edit day xs r ys = subst (λ n. OnDay Edit n xs r ys) same asked in
      let long = length-map xs f in
      elim (cases_lt 128 (length xs)) [
        | inl many ↦
            let e = h.many many in
            rw (e.0, e.1) (refused TooManyDays (λ book. ap topmost (d.judged (plan book)) ∙ grind (arith, nat_tests)))
        | inr few ↦ elim (cases_Bool (day == 0 || nat_lt (length xs) day)) [
          | inl out ↦
              let e = h.none few out in
              rw (e.0, e.1) (refused NoSuchDay (λ book. ap topmost (d.judged (plan book)) ∙ grind (arith, nat_tests)))
          | inr such ↦
              let from : 0 < day = grind (arith, nat_tests) in
              let to : day ≤ length xs = grind (arith, nat_tests) in
              let one = h.one few from to in
              rw one.4 (edits_day one.0 few from to one.2 c r one.1 (means one.0 r one.1 one.3))
        ]
      ]

-- what a closure owes of each call at a `&mut`, as a relation of the values there before and after
called_at : {X F : Type 0} (G : Once F (MutBor X × Unit {0}) (Result (Unit {0}) Refusal × (MutBor X × Unit {0}))) (f : F)
    (P : X → Result (Unit {0}) Refusal → X → Type 0)
    → ((shown left : MutBor X) (r : Result (Unit {0}) Refusal) → G.post f (shown, tt) (r, (left, tt)) → P shown.now r left.now)
    → (x : X) (r : Result (Unit {0}) Refusal) (y : X) → FnOnceReturnsAtMut G f x r y → P x r y
called_at G f P each x r y call =
    rw (← call.shows, ← call.leaves) (each call.shown call.left r call.met)

module _ {X F : Type 0} (kind : Ghosts X) (xs : List X) (day : ℕ) (G : Once F (MutBor X × Unit {0}) (Result (Unit {0}) Refusal × (MutBor X × Unit {0}))) (f : F)
    (c : ℕ) (r : Result (Unit {0}) Refusal) (ys : List X) where
  pub strikes_on_day : ((shown left : MutBor X) (r : Result (Unit {0}) Refusal) → G.post f (shown, tt) (r, (left, tt)) → Strikes kind.meaning kind.known c shown.now r left.now)
      → (given : ℕ) → OnDay (FnOnceReturnsAtMut G f) given xs r ys → given ≡ day → EditsDay kind (Strike day c) day xs r ys
  strikes_on_day each =
      on_day kind xs day (Strike day c) (record {
        judge = λ known m. strike_rows known m c;
        edit = λ m. struck m c;
        So = λ known m. (known c ≡ true) × (held m c ≡ false);
        judged = λ l. refl;
        edited = λ l. refl;
        answers = λ l. refl;
        already = λ l a. a;
      })
      (FnOnceReturnsAtMut G f) c r ys (λ x s y e. (called_at G f (Strikes kind.meaning kind.known c) each x s y e).0)

  pub grants_on_day : ((shown left : MutBor X) (r : Result (Unit {0}) Refusal) → G.post f (shown, tt) (r, (left, tt)) → Grants kind.meaning kind.known c shown.now r left.now)
      → (given : ℕ) → OnDay (FnOnceReturnsAtMut G f) given xs r ys → given ≡ day → EditsDay kind (Grant day c) day xs r ys
  grants_on_day each =
      on_day kind xs day (Grant day c) (record {
        judge = λ known m. grant_rows known m c;
        edit = λ m. granted m c;
        So = λ known m. held m c ≡ true;
        judged = λ l. refl;
        edited = λ l. refl;
        answers = λ l. refl;
        already = λ l a. a;
      })
      (FnOnceReturnsAtMut G f) c r ys (called_at G f (Grants kind.meaning kind.known c) each)

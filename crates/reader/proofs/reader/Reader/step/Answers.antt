use Rattle.std.proofs.Common.{◌≡◌, ℕ, ◌≤◌, ◌<◌, List, length, slice_index, Some, Bor, refl, rules, arith}
use Rattle.reader.specs.Left.{kinds, later_line, calls, calls_after_s, shape, left}
use Rattle.reader.specs.Forms.{Stuck}
use Rattle.reader.specs.Places.{byte_at}
use Rattle.reader.specs.declared.state.State.TheVariants.{Sheet, Line, Call, CallAfterS, Text, Number, Digits}
use Rattle.reader.proofs.Steps.{more_other, more_stuck}
use Rattle.reader.proofs.Positions.{beside}
use Rattle.reader.proofs.States.{Follows, choice, head, head_over, zero, lead, digit}
use Rattle.reader.proofs.reader.Reader.step.Goals as goal
use Rattle.reader.proofs.reader.Reader.step.Goals.{Joined-self, in-Sheet-empty-eq100, in-Sheet-empty-eq99, in-Sheet-empty-eq98, in-Sheet-len1-up-default, in-Line-eq40, in-Call-eq114, in-Call-eq119, in-Call-eq103, in-Call-eq115, in-CallAfterS-eq108, in-CallAfterS-eq116, in-CallAfterS-eq101, in-Number-eq48, in-Number-49-to-57, in-Digits-1-to-255-default-48-to-57, in-Text-default+in-Some-after_text, in-Digits+in-Text-default, in-Text-default}

-- what each arm of the match makes of the state
follows : (c : Joined-self) → Follows c.args.self.now.state c.match-self.self c.in-Some.byte
follows c =
    let s = c.args.self.now.state in
    let b = c.in-Some.byte in
    let h = c.args.self.now.apart in
    elim c.match-self.branch [
      | in-Sheet-empty-eq100 w ↦
          let (r, is, over) : (r : Bor (List ℕ)) × (s ≡ Sheet r) × (length r.now < 1) = search rules in
          rw (w.self-is, is, w.in-Sheet-empty-eq100.is-1) (choice (Sheet r) _ 100 kinds (head_over r over) refl refl (λ e. omega arith) refl)
      | in-Sheet-empty-eq99 w ↦
          let (r, is, over) : (r : Bor (List ℕ)) × (s ≡ Sheet r) × (length r.now < 1) = search rules in
          rw (w.self-is, is, w.in-Sheet-empty-eq99.is-1) (choice (Sheet r) _ 99 kinds (head_over r over) refl refl (λ e. omega arith) refl)
      | in-Sheet-empty-eq98 w ↦
          let (r, is, over) : (r : Bor (List ℕ)) × (s ≡ Sheet r) × (length r.now < 1) = search rules in
          rw (w.self-is, is, w.in-Sheet-empty-eq98.is-1) (choice (Sheet r) _ 98 kinds (head_over r over) refl refl (λ e. omega arith) refl)
      | in-Sheet-len1-up-default w ↦
          let (r, is, some, e) : (r : Bor (List ℕ)) × (s ≡ Sheet r) × (1 ≤ length r.now) × (slice_index r.now 0 ≡ b) = search rules in
          rw (w.self-is, is) (head b r _ (rw is at h) some e refl)
      | in-Line-eq40 w ↦ rw (w.self-is, w.in-Line-eq40.is-0, w.in-Line-eq40.is-1) (choice Line _ 40 later_line refl refl refl (λ e. omega arith) refl)
      | in-Call-eq114 w ↦ rw (w.self-is, w.in-Call-eq114.is-0, w.in-Call-eq114.is-1) (choice Call _ 114 calls refl refl refl (λ e. omega arith) refl)
      | in-Call-eq119 w ↦ rw (w.self-is, w.in-Call-eq119.is-0, w.in-Call-eq119.is-1) (choice Call _ 119 calls refl refl refl (λ e. omega arith) refl)
      | in-Call-eq103 w ↦ rw (w.self-is, w.in-Call-eq103.is-0, w.in-Call-eq103.is-1) (choice Call _ 103 calls refl refl refl (λ e. omega arith) refl)
      | in-Call-eq115 w ↦ rw (w.self-is, w.in-Call-eq115.is-0, w.in-Call-eq115.is-1) (choice Call _ 115 calls refl refl refl (λ e. omega arith) refl)
      | in-CallAfterS-eq108 w ↦ rw (w.self-is, w.in-CallAfterS-eq108.is-0, w.in-CallAfterS-eq108.is-1) (choice CallAfterS _ 108 calls_after_s refl refl refl (λ e. omega arith) refl)
      | in-CallAfterS-eq116 w ↦ rw (w.self-is, w.in-CallAfterS-eq116.is-0, w.in-CallAfterS-eq116.is-1) (choice CallAfterS _ 116 calls_after_s refl refl refl (λ e. omega arith) refl)
      | in-CallAfterS-eq101 w ↦ rw (w.self-is, w.in-CallAfterS-eq101.is-0, w.in-CallAfterS-eq101.is-1) (choice CallAfterS _ 101 calls_after_s refl refl refl (λ e. omega arith) refl)
      | in-Number-eq48 w ↦
          let (r, is) : (r : Bor (List ℕ)) × (s ≡ Number r) = search rules in
          rw (w.self-is, is) (zero b r (rw is at h) w.in-Number-eq48.is-1)
      | in-Number-49-to-57 w ↦
          let (r, is) : (r : Bor (List ℕ)) × (s ≡ Number r) = search rules in
          rw (w.self-is, is) (lead b r (rw is at h) (omega arith) (omega arith))
      | in-Digits-1-to-255-default-48-to-57 w ↦
          let (k, r, is) : (k : ℕ) × (r : Bor (List ℕ)) × (s ≡ Digits k r) = search rules in
          rw (w.self-is, is) (digit b r (rw is at h) k (omega arith) (omega arith, omega arith))
      | in-Text-default+in-Some-after_text w ↦
          let after = w.in-Some-after_text.ensures in
          elim w.in-Text-default-1.branch [
            | in-Digits+in-Text-default w' ↦
                let (k, r, is) : (k : ℕ) × (r : Bor (List ℕ)) × (s ≡ Digits k r) = search rules in
                let goes = more_other k b (shape r.now) _ (λ some d. grind arith) (rw w'.rest-is at after.step) in
                rw (w.self-is, is) (record { inside = after.inside; goes = goes; apart = after.apart })
            | in-Text-default w' ↦
                let (r, is) : (r : Bor (List ℕ)) × (s ≡ Text r) = search rules in
                rw (w.self-is, is) (record { inside = after.inside; goes = rw w'.rest-is at after.step; apart = after.apart })
          ]
    ]

pub returns : goal.returns
returns c =
    let on = follows (goal.at.returns c).Joined-self in
    let read : byte_at c.args.self.now.text.now c.args.self.now.at ≡ Some c.in-Some.byte = cc in
    rw read (record { text = refl; on = refl; inside = on.inside; goes = on.goes })

pub invariant_of-self-clause-placed : goal.invariant_of-self-clause-placed
invariant_of-self-clause-placed c =
    let r = c.args.self.now in
    let read : byte_at r.text.now r.at ≡ Some c.in-Some.byte = cc in
    beside r.text.now r.at c.in-Some.byte read r.line r.begun r.small.1 r.placed (follows (goal.at.invariant_of-self-clause-placed c).Joined-self).inside

pub invariant_of-self-clause-apart : goal.invariant_of-self-clause-apart
invariant_of-self-clause-apart c = (follows (goal.at.invariant_of-self-clause-apart c).Joined-self).apart

pub returns-in-None : goal.returns-in-None
returns-in-None c =
    let s = c.args.self.now.state in
    let b = c.in-Some.byte in
    let read : byte_at c.args.self.now.text.now c.args.self.now.at ≡ Some b = cc in
    let due = c.in-None.ensures.step in
    let stuck : Stuck b (left s) = elim c.in-Text-default-1.branch [
      | in-Digits+in-Text-default w ↦
          let (k, r, is) : (k : ℕ) × (r : Bor (List ℕ)) × (s ≡ Digits k r) = search rules in
          rw is (more_stuck k b (shape r.now) (λ some d. grind arith) (rw w.rest-is at due))
      | in-Text-default w ↦
          let (r, is) : (r : Bor (List ℕ)) × (s ≡ Text r) = search rules in
          rw is (rw w.rest-is at due)
    ] in
    record { same = refl; fault = c.fault-in-None.ensures; stuck = rw read stuck }

use Rattle.std.proofs.Common.{◌≡◌, ℕ, List, [], ◌++◌, take, Option, None, Some, IfSome}
use Rattle.std.specs.Option.{option_map}
use Rattle.planner.proofs.read_sheet.Goals as goal

-- the limit cuts what the reader has left
pub returns : goal.returns
returns g c = taken 16385 (g.R.Read.remaining c.args.reader) c.read_to_end.new.buf.items
    (rw (c.take.ensures.limit, c.take.ensures.inner, c.new-sheet.ensures.items) at c.in_ok-read_to_end.ensures.bytes)
  where
    -- what an empty list has grown to by the bytes that a reader has left, up to a limit
    taken : (n : ℕ) (left : Option (List ℕ)) (sheet : List ℕ)
        → IfSome (option_map (take n) left) (λ bytes. sheet ≡ [] ++ bytes) → IfSome left (λ input. sheet ≡ take n input)
    taken n None sheet h = h
    taken n (Some input) sheet h = h

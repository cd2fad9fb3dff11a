use Rattle.std.proofs.Common.{◌≡◌, Some}
use Rattle.reader.specs.Places.{byte_at}
use Rattle.reader.proofs.Positions.{below}
use Rattle.reader.proofs.reader.Reader.end_line.Goals.{in-Some-eq10, in-None}
use Rattle.reader.proofs.reader.Reader.end_line.Goals as goal

pub invariant_of-self-clause-placed : goal.invariant_of-self-clause-placed
invariant_of-self-clause-placed c =
    let r = c.args.self.now in
    elim c.match-peek.branch [
      | in-Some-eq10 w ↦ let read : byte_at r.text.now r.at ≡ Some 10 = cc in rw w.self-is (below r.text.now r.at read r.line r.begun r.placed)
      | in-None w ↦ rw w.self-is r.placed
    ]

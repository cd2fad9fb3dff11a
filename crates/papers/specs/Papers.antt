-- Papers: the code of each, its title, and the papers that a code stands for.
use Rattle.std.specs.Prelude.{ℕ, if◌then◌else◌, ◌==◌, List, Result, Ok, Err, codes}
use Rattle.papers.specs.declared.Papers.{Papers}
use Rattle.papers.specs.declared.Papers.TheVariants.{Letters, Drafts, Maps}
use Rattle.papers.specs.declared.UnknownPapers.{UnknownPapers}

-- the code that stands for the papers
abbrev pub code_of : Papers → ℕ
code_of Letters = 3
code_of Drafts = 7
code_of Maps = 12

-- the papers with this code; refused for every other number
abbrev pub papers_of : ℕ → Result Papers UnknownPapers
papers_of code =
    if code == 3 then Ok Letters else
    if code == 7 then Ok Drafts else
    if code == 12 then Ok Maps else
    Err (record { code = code })

-- the name of the papers, byte by byte
abbrev pub title_of : Papers → List ℕ
title_of Letters = codes "letters"
title_of Drafts = codes "drafts"
title_of Maps = codes "maps"

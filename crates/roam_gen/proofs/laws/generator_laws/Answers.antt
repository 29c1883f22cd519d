use Rattle.roam_gen.specs.Generated.{made_grid}
use Rattle.roam_gen.specs.Written.{grid_text}
use Rattle.roam_gen.proofs.LawLemmas.{made-is_grid, made-is_text, header-is_text, line-made}
use Rattle.roam_gen.proofs.laws.generator_laws.Goals as goal

pub returns-clause-valid : goal.returns-clause-valid
returns-clause-valid c = made-is_grid

pub returns-clause-grid_text : goal.returns-clause-grid_text
returns-clause-grid_text c =
    λ n seed low high. made-is_text n seed high (header-is_text c.header_laws.ensures.written n high)

pub returns-clause-read_back : goal.returns-clause-read_back
returns-clause-read_back c =
    λ n seed low high. c.grids_and_texts.ensures.texts (made_grid n seed) (grid_text n seed)
    (made-is_grid n seed low high)
    (made-is_text n seed high (header-is_text c.header_laws.ensures.written n high))

pub returns-clause-ranges : goal.returns-clause-ranges
returns-clause-ranges c = line-made

-- Each clause is a lemma.
use Rattle.fit_laws.proofs.RequiredLemmas.{mesh-with}
use Rattle.mosaic_laws.specs.Rounds.{tile_error}
use Rattle.mosaic_laws.specs.Terrain.{terrain_error}
use Rattle.mosaic_laws.proofs.TerrainLemmas.{terrain-inside, terrain-beyond, terrain-exact, terrain-mesh}
use Rattle.mosaic_laws.proofs.TerrainLemmas.{terrain-mosaic}
use Rattle.mosaic_laws.proofs.TerrainLemmas.{terrain-part}
use Rattle.mosaic_laws.proofs.terrains.terrain_laws.Goals as goal

pub returns-clause-inside : goal.returns-clause-inside
returns-clause-inside c = terrain-inside

pub returns-clause-beyond : goal.returns-clause-beyond
returns-clause-beyond c = terrain-beyond

pub returns-clause-exact : goal.returns-clause-exact
returns-clause-exact c = terrain-exact

pub returns-clause-fitted : goal.returns-clause-fitted
returns-clause-fitted c columns rows n p tolerance heights t required triangles wide high tile centre least =
    mesh-with n tolerance (tile_error p (terrain_error columns rows n p heights) t) required triangles
    (terrain-mesh columns rows n p heights tolerance wide high t required triangles tile centre least)

pub returns-clause-mosaic : goal.returns-clause-mosaic
returns-clause-mosaic c columns rows n p tolerance heights required lists wide high running meshes down =
    terrain-mosaic columns rows n p heights tolerance wide high required lists running meshes down

pub returns-clause-part : goal.returns-clause-part
returns-clause-part c columns rows n p tolerance heights lists triangles wide high least mesh =
    terrain-part columns rows n p heights tolerance wide high lists triangles least mesh

use Rattle.run_laws.proofs.OutcomeLemmas.{command-budget}
use Rattle.run_laws.proofs.MadeLemmas.{made-accepted, fit_made-accepted, fit-back, kept_made-accepted, kept-back}
use Rattle.run_laws.proofs.PointFileLemmas.{points-in_grid, points-few}
use Rattle.run_words.specs.Words.{Make, MakeFit, MakeKept}
use Rattle.run_laws.proofs.laws.certify_laws.Goals as goal

pub returns : goal.returns
returns c = record {
  fit_read_back = fit-back c.fit_text_laws.ensures.back c.fit_text_laws.ensures.ended c.fit_text_laws.ensures.lines;
  accepted = λ words name m grid cert check files is range made budget spacing text mesh.
      made-accepted c.text_laws.ensures.back c.text_laws.ensures.ended c.text_laws.ensures.lines m grid cert range
      (command-budget words name (Make m) is) made
      check files budget spacing text mesh;
  fit_accepted = λ words name m grid cert check files triangles is valid of_file made wanted fitted text mesh.
      fit_made-accepted c.fit_text_laws.ensures.back c.fit_text_laws.ensures.ended c.fit_text_laws.ensures.lines
      m grid cert valid of_file (command-budget words name (MakeFit m) is) made
      check files triangles wanted fitted text mesh;
  kept_read_back = kept-back c.kept_text_laws.ensures.back c.kept_text_laws.ensures.ended c.kept_text_laws.ensures.lines;
  kept_accepted = λ words name m grid points cert check files triangles is valid of_file made error fitted found text mesh.
      kept_made-accepted c.kept_text_laws.ensures.back c.kept_text_laws.ensures.ended c.kept_text_laws.ensures.lines
      m grid points cert valid of_file (command-budget words name (MakeKept m) is)
      (points-in_grid c.point_laws.ensures.in_grid grid.n _ points found)
      (points-few c.point_laws.ensures.too_many_lines grid.n _ points found) made
      check files triangles error fitted found text mesh;
}

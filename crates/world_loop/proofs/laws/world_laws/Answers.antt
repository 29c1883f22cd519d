use Rattle.world_loop.proofs.laws.world_laws.Goals as goal

pub returns : goal.returns
returns c = record {
  sound = λ pace s pyramid. record {
    falls = c.loaded_laws.ensures.falls s pyramid;
    low = λ a address to within. (c.loaded_laws.ensures.between pace s 0 to a within).below;
    high = λ a address to within. (c.loaded_laws.ensures.between pace s 0 to a within).above;
  };
}

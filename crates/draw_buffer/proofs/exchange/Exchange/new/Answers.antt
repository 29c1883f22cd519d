use Rattle.std.proofs.Common.{◌≡◌, ◌+◌, ◌*◌, ◌%◌, ◌^◌, get_or, sum, ap, sym, ◌∙◌, arith, map, length}
use Rattle.bintree_laws.proofs.CornerLemmas.{side_small}
use Rattle.draw_buffer.specs.Times.{times}
use Rattle.draw_buffer.specs.Corners.{grid_indices, shown, uses_in}
use Rattle.draw_buffer.specs.Exchange.{addresses_of, waiting_uses}
use Rattle.draw_buffer.proofs.TimesLemmas.{times-none}
use Rattle.draw_buffer.proofs.ExchangeLemmas.{end-small}
use Rattle.draw_buffer.proofs.UseLemmas.{uses_in-none, waiting_uses-none}
use Rattle.draw_buffer.proofs.exchange.Exchange.new.Goals as goal

pub invariant_of-result : goal.invariant_of-result
invariant_of-result c =
    let small = end-small c.args.n c.requires.in_grid.1 in
    record {
      n_low = c.requires.in_grid.0;
      n_high = c.requires.in_grid.1;
      end = omega (arith, c.in_ok-new.ensures.end);
      point_end =
          let side = side_small c.args.n c.requires.in_grid.1 in
          let last : 1 * 2 ^ c.args.n % 4294967296 ≡ 2 ^ c.args.n = omega (arith, side.1) in
          c.in_ok-new-2.ensures.end ∙ ap (λ m. (m + 1) * (m + 1)) last;
      point_most = omega (arith, c.in_ok-new-2.ensures.most, c.in_ok-new.ensures.most);
      drawn = ap (map (shown c.in_ok-new-2.field-0.points)) c.in_ok-with_capacity.ensures.items
          ∙ sym (ap (map (grid_indices c.args.n)) c.in_ok-new.ensures.triangles);
      ready = λ k d low. absurd (omega (arith, ap length c.in_ok-with_capacity-2.ensures.items));
      used = λ v.
          let none = uses_in-none v in
          let empty = waiting_uses-none v in
          omega (
            arith,
            ap (λ us. get_or us v 0) c.in_ok-new-2.ensures.uses,
            ap (λ xs. uses_in xs v) c.in_ok-with_capacity.ensures.items,
            ap (λ ws. waiting_uses ws v) c.in_ok-with_capacity-2.ensures.items,
          );
      total = omega (
        arith,
        ap sum c.in_ok-new-2.ensures.uses,
        ap length c.in_ok-with_capacity.ensures.items,
        ap
            length c.in_ok-with_capacity-2.ensures.items,
      );
      once = λ a. let none = times-none a in
          omega (
            arith,
            ap (λ ts. times ts a) c.in_ok-new.ensures.triangles,
            ap (λ ws. times (addresses_of ws) a)
                c.in_ok-with_capacity-2.ensures.items,
          );
      few = omega (arith, ap length c.in_ok-new.ensures.triangles);
      corner_space = (let room = c.in_ok-with_capacity.ensures.exact in omega (arith, c.in_ok-new.ensures.most));
      waiting_space = (let room = c.in_ok-with_capacity-2.ensures.exact in omega (arith, c.in_ok-new.ensures.most));
      written_space = (let room = c.in_ok-with_capacity-3.ensures.exact in omega (arith, c.in_ok-new.ensures.most));
    }

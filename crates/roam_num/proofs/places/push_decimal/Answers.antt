use Rattle.roam_num.proofs.PlacesLemmas.{decimal-items}
use Rattle.roam_num.proofs.places.push_decimal.Goals as goal

pub returns-clause-items : goal.returns-clause-items
returns-clause-items g c =
    decimal-items c.args.text.now.items c.push_number.new.text.items c.push_fraction.new.text.items c.args.count
    c.args.n c.from-count.result c.power-over.result
    c.power-over.ensures.value c.from-count.ensures c.push_number.ensures.items c.push_fraction.ensures.items

-- As the rounds answer.
use Rattle.std.proofs.Common.{◌≡◌, ◌↔◌, ℕ, ◌≤◌, List, ◌++◌, length, take, drop, map, refl}
use Rattle.std.proofs.Common.{sym, ◌∙◌, ap, subst, arith}
use Rattle.std.proofs.lemmas.Bool.{both_ways}
use Rattle.std.proofs.lemmas.List.{length-take-le, with_items_is}
use Rattle.mosaic_laws.specs.Tile.{IsTile}
use Rattle.mosaic_rounds.specs.Place.{centre_place}
use Rattle.mosaic_rounds.specs.Rounds.{Lacks}
use Rattle.roam_embed.specs.declared.answer.Answer.TheVariants.{Done, NoRoom}
use Rattle.roam_embed.specs.Mosaics.{AreRequiredTold}
use Rattle.roam_embed.proofs.MosaicLemmas.{no-room, told}
use Rattle.roam_embed.proofs.mosaic.tell_required.Goals as goal
use Rattle.roam_embed.proofs.mosaic.tell_required.Goals.{then-lacks, else-lacks}

pub returns-then-out-count-clause-told : goal.returns-then-out-count-clause-told
returns-then-out-count-clause-told c =
    let keeps = c.required-count.auto.list in
    let same = ap length c.deref_mut.ensures.value in
    let room = c.mosaic.invariant.1 in
    let within = c.required-count.ensures.within in
    let count : length (take c.required-count.result c.required-count.new.list) ≡ c.required-count.result =
    length-take-le c.required-count.result c.required-count.new.list (omega arith) in
    let tile : IsTile c.mosaic.inside.rounds.columns c.mosaic.inside.rounds.rows
    (record { x = c.args.column; y = c.args.row }) =
    (let less = c.if-column-columns.false in let less' = c.if-row-rows.false in
    let columns = c.columns.ensures.value in let rows = c.rows.ensures.value in
    record { column = omega arith; row = omega arith }) in
    let less = c.if-out-count.true in
    subst (λ b. AreRequiredTold b (record { x = c.args.column; y = c.args.row }) c.args.out.now c.args.out.now
    c.args.told.now c.args.told.now NoRoom) c.mosaic.view_is
    (no-room c.mosaic.inside.rounds (record { x = c.args.column; y = c.args.row })
    (take c.required-count.result c.required-count.new.list) (omega arith) c.required-count.ensures.just tile
    c.args.out.now c.args.told.now (omega arith))

pub returns-clause-told : goal.returns-clause-told
returns-clause-told c =
    let keeps = c.required-count.auto.list in
    let same = ap length c.deref_mut.ensures.value in
    let enough = c.mosaic.invariant.1 in
    let within = c.required-count.ensures.within in
    let count : length (take c.required-count.result c.required-count.new.list) ≡ c.required-count.result =
    length-take-le c.required-count.result c.required-count.new.list (omega arith) in
    let tile : IsTile c.mosaic.inside.rounds.columns c.mosaic.inside.rounds.rows
    (record { x = c.args.column; y = c.args.row }) =
    (let less = c.if-column-columns.false in let less' = c.if-row-rows.false in
    let columns = c.columns.ensures.value in let rows = c.rows.ensures.value in
    record { column = omega arith; row = omega arith }) in
    let room = c.if-out-count.false in
    let list : c.deref.result.now ≡ c.required-count.new.list =
    c.deref.ensures.value ∙ with_items_is c.mosaic.inside.list c.required-count.new.list
    (c.required-count.auto.list ∙ c.deref_mut.ensures.len) in
    let written : c.write_centres.new.out ≡ map (centre_place c.mosaic.inside.rounds.n)
    (take c.required-count.result c.required-count.new.list)
    ++ drop (length (take c.required-count.result c.required-count.new.list)) c.args.out.now =
    c.write_centres.ensures
    ∙ ap (λ n. map (centre_place n) (take c.required-count.result c.deref.result.now)
    ++ drop (length (take c.required-count.result c.deref.result.now)) c.args.out.now) c.n.ensures.value
    ∙ ap (λ (l : List ℕ). map (centre_place c.mosaic.inside.rounds.n) (take c.required-count.result l)
    ++ drop (length (take c.required-count.result l)) c.args.out.now) list in
    let lacks : (c.if-lacks.lacks ≡ 1) ↔ Lacks c.mosaic.inside.rounds (record { x = c.args.column; y = c.args.row }) =
    elim c.if-lacks.branch [
      | then-lacks w ↦ ((λ e. c.lacks.ensures.value.0 w.if-lacks.true), (λ h. w.lacks-is))
      | else-lacks w ↦ (
        (λ e. absurd (let z = w.lacks-is in omega (arith, e))),
        (λ h. absurd (both_ways c.lacks.result w.if-lacks.false (c.lacks.ensures.value.1 h))),
      )
    ] in
    let one : c.if-lacks.lacks ≤ 1 = elim c.if-lacks.branch [
      | then-lacks w ↦ let z = w.lacks-is in omega arith
      | else-lacks w ↦ let z = w.lacks-is in omega arith
    ] in
    subst (λ b. AreRequiredTold b (record { x = c.args.column; y = c.args.row }) c.args.out.now c.write_centres.new.out
    c.args.told.now (record { count = c.required-count.result; lacks = c.if-lacks.lacks; spare = 0 }) Done)
    c.mosaic.view_is
    (told c.mosaic.inside.rounds (record { x = c.args.column; y = c.args.row })
    (take c.required-count.result c.required-count.new.list) (omega arith) c.required-count.ensures.just tile
    c.args.out.now c.write_centres.new.out c.args.told.now
    (record { count = c.required-count.result; lacks = c.if-lacks.lacks; spare = 0 }) (omega arith) written (sym count)
    lacks one refl)

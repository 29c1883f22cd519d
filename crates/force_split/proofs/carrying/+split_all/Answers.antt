use Rattle.std.proofs.Common.{ap, sym, ◌∙◌, subst, inl, inr, ◌∷◌, ◌++◌, [], arith}
use Rattle.mesh_laws.specs.Slots.{room_of}
use Rattle.triangle_pool.specs.Answer.{numbers}
use Rattle.force_split.specs.Chain.{IsChain, IsBornOf}
use Rattle.std.proofs.lemmas.List.{append_assoc}
use Rattle.force_split.proofs.CarryLemmas.{IsTask, rest_task, turn, task_step, born_old, born_new, answers_step}
use Rattle.force_split.proofs.carrying.+split_all.Goals as goal

pub split_all-requires : goal.split_all-requires
split_all-requires t c =
    let task : IsTask c.args.pool.now.n c.args.pool.now.pairs
    (room_of c.args.pool.now.pairs) c.args.pool.now.splits c.args.slots.now =
    record { chain = c.requires.chain; coarse = c.requires.coarse; fits = c.requires.room; count = c.requires.count } in
    let rest = rest_task c.args.pool.now.n c.args.pool.now.pairs (room_of c.args.pool.now.pairs) c.args.pool.now.splits
    c.args.slots.now c.in-Some.first.now c.in-Some.rest.now c.in-Some.ensures.cases.0 task in
    let size = c.in-Some.ensures.cases.1 in let fits = c.requires.fits in
    (omega arith, (c.requires.valid, (rest.chain, (rest.coarse, (rest.fits, (rest.count, omega arith))))))

pub split-born-requires-clause-leaf : goal.split-born-requires-clause-leaf
split-born-requires-clause-leaf t c =
    (turn c.args.pool.now.n c.args.pool.now.pairs c.split_all.new.pool.pairs c.in-Some.first.now.0
    (numbers c.in-Some.rest.now) c.requires.valid c.split_all.ensures.valid.root
    (subst (λ x. IsChain c.args.pool.now.pairs (numbers x)) c.in-Some.ensures.cases.0 c.requires.chain)
    c.split_all.ensures.chained c.split_all.ensures.kept).leaf

pub split-born-requires-clause-level : goal.split-born-requires-clause-level
split-born-requires-clause-level t c =
    (turn c.args.pool.now.n c.args.pool.now.pairs c.split_all.new.pool.pairs c.in-Some.first.now.0
    (numbers c.in-Some.rest.now) c.requires.valid c.split_all.ensures.valid.root
    (subst (λ x. IsChain c.args.pool.now.pairs (numbers x)) c.in-Some.ensures.cases.0 c.requires.chain)
    c.split_all.ensures.chained c.split_all.ensures.kept).level

pub returns-clause-chained : goal.returns-clause-chained
returns-clause-chained t c =
    let own = turn c.args.pool.now.n c.args.pool.now.pairs c.split_all.new.pool.pairs c.in-Some.first.now.0
    (numbers c.in-Some.rest.now) c.requires.valid c.split_all.ensures.valid.root
    (subst (λ x. IsChain c.args.pool.now.pairs (numbers x)) c.in-Some.ensures.cases.0 c.requires.chain)
    c.split_all.ensures.chained c.split_all.ensures.kept in
    task_step c.args.pool.now.n c.args.pool.now.pairs c.split_all.new.pool.pairs c.split-born.new.self.pairs
    c.args.slots.now c.in-Some.first.now c.in-Some.rest.now (room_of c.args.pool.now.pairs) c.args.pool.now.splits
    c.in-Some.ensures.cases.0 c.requires.valid (record {
      chain = c.requires.chain;
      coarse = c.requires.coarse;
      fits = c.requires.room;
      count = c.requires.count;
    }) c.split_all.ensures.chained own.same c.split-born.ensures.split

pub returns-clause-live : goal.returns-clause-live
returns-clause-live t c = λ r live. elim (c.split-born.ensures.born.live r live) [
  | inl mid ↦ elim (c.split_all.ensures.live r mid) [
    | inl old ↦ inl old
    | inr born ↦ inr (subst (λ x. IsBornOf x r) (sym c.push.ensures.items)
        (born_old c.split_all.new.answers.items (c.split-born.result ∷ []) r born))
  ]
  | inr born ↦ inr (subst (λ x. IsBornOf x r) (sym c.push.ensures.items)
      (born_new c.split_all.new.answers.items c.split-born.result r born))
]

pub returns-clause-more : goal.returns-clause-more
returns-clause-more t c = λ r born. subst (λ x. IsBornOf x r) (sym c.push.ensures.items)
    (born_old c.split_all.new.answers.items (c.split-born.result ∷ []) r (c.split_all.ensures.more r born))

pub returns-clause-kept : goal.returns-clause-kept
returns-clause-kept t c = λ r live.
    let mid = c.split_all.ensures.kept r live in
    c.split-born.ensures.split.slots r (omega arith) ∙ mid

pub returns-clause-answers : goal.returns-clause-answers
returns-clause-answers t c =
    let before = c.split_all.ensures.answers in
    let own = turn c.args.pool.now.n c.args.pool.now.pairs c.split_all.new.pool.pairs c.in-Some.first.now.0
    (numbers c.in-Some.rest.now) c.requires.valid c.split_all.ensures.valid.root
    (subst (λ x. IsChain c.args.pool.now.pairs (numbers x)) c.in-Some.ensures.cases.0 c.requires.chain)
    c.split_all.ensures.chained c.split_all.ensures.kept in (
      before.0 ++ (c.split-born.result ∷ []),
      c.push.ensures.items ∙ ap (λ x. x ++ (c.split-born.result ∷ [])) before.1
          ∙ append_assoc c.args.answers.now.items before.0 (c.split-born.result ∷ []),
      answers_step c.args.pool.now.pairs c.split_all.new.pool.pairs c.split-born.new.self.pairs c.args.slots.now
          c.in-Some.first.now c.in-Some.rest.now before.0 c.split-born.result
          c.in-Some.ensures.cases.0 c.requires.chain before.2 c.split-born.ensures.split.slots own.same
          c.split-born.ensures.born,
    )

-- One entry more, where the triangle has an error.
use Rattle.std.proofs.Common.{ℕ, Contains, subst, ap₂}
use Rattle.std.specs.BinaryHeap.{heap_items}
use Rattle.fit_mesh.proofs.HeapLemmas.{pushed-kept, pushed-added, pushed-only}
use Rattle.fit_mesh.proofs.leaves.push_leaf.Goals as goal

pub returns-in-Ok-clause-kept : goal.returns-in-Ok-clause-kept
returns-in-Ok-clause-kept c r h = pushed-kept _ _ _ c.in-Ok.ensures.permutation r h

pub returns-in-Ok-clause-added : goal.returns-in-Ok-clause-added
returns-in-Ok-clause-added c some =
    subst (λ (r : ℕ × ℕ). Contains (heap_items c.push.new.self) r)
    (ap₂ (λ (x y : ℕ). (x, y)) c.error_at-worst.ensures c.number.ensures.value)
    (pushed-added _ _ _ c.in-Ok.ensures.permutation)

pub returns-in-Ok-clause-only : goal.returns-in-Ok-clause-only
returns-in-Ok-clause-only c r h =
    pushed-only _ _ _ _ _ _ c.error_at-worst.ensures c.number.ensures.value c.if-worst-gt0.true
    c.in-Ok.ensures.permutation r h

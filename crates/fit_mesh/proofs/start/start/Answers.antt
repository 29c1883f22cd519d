-- A quarter of the tolerance more, or back to the set before.
use Rattle.std.proofs.Common.{◌≡◌, ℕ, ◌+◌, ◌*◌, ◌^◌, Bool, false, IsTrue, List, length, take, sym, ◌∙◌, subst, ap}
use Rattle.std.proofs.Common.{arith}
use Rattle.std.proofs.Math.Seq.{take-length}
use Rattle.std.proofs.lemmas.List.{length-replicate, take-append-le}
use Rattle.mesh_defs.specs.ClosedSet.{among}
use Rattle.mesh_laws.specs.Sweep.{is_flagged}
use Rattle.mesh_laws.proofs.FlagLemmas.{flagged-unset}
use Rattle.mesh_laws.proofs.SweepLemmas.{splittable-lt}
use Rattle.fit_laws.specs.Error.{error_of}
use Rattle.fit_mesh.specs.Log.{HasLog, Extends}
use Rattle.fit_mesh.proofs.GrownLemmas.{start-grown, start-settled, settled-same, log-same}
use Rattle.fit_mesh.proofs.ErrorLemmas.{error-most}
use Rattle.fit_mesh.proofs.start.start.Goals as goal

pub loop-from-init : goal.loop-from-init
loop-from-init c =
    let n : ℕ = c.args.grid.now.n in
    let e : ℕ → ℕ = error_of n c.args.grid.now.heights in
    let empty : (a : ℕ) → is_flagged c.clear.new.flags a ≡ false =
    λ a. subst (λ (l : List Bool). is_flagged l a ≡ false) (sym c.clear.ensures)
    (flagged-unset (length c.args.flags.now) a) in
    let room : length c.clear.new.flags ≡ 2 ^ (2 * n + 1) =
    ap (λ (l : List Bool). length l) c.clear.ensures
    ∙ length-replicate (length c.args.flags.now) false ∙ c.requires.flags in
    let none : length c.clear-2.new.self.items ≡ 0 = ap (λ (l : List ℕ). length l) c.clear-2.ensures.items in
    let from = c.greater-from.ensures in
    let most = c.most_error.ensures in
    let some = c.requires.some in
    record {
      capacity = c.clear-2.ensures.capacity;
      grown = subst (λ (l : List ℕ). HasLog n c.clear.new.flags l) (sym c.clear-2.ensures.items)
          (start-grown n c.clear.new.flags empty room);
      few = omega arith;
      above = omega arith;
      fit = start-settled n c.greater-from.result e c.clear.new.flags empty (λ a address.
          let le = error-most n c.args.grid.now.heights c.args.grid.now.maxval a address c.n-valid.ensures.valid.bounded in
          omega arith);
    }

-- the log up to the mark is that of the set before
module _ (log next : List ℕ) (mark : ℕ) (at : mark ≡ length log) (extends : Extends log next) where
  cut : take mark next ≡ log
  cut = ap (take mark) extends.1 ∙ take-append-le mark log extends.0 (omega arith) ∙ ap (λ k. take k log) at ∙ take-length log

pub set_back-requires-clause-addresses : goal.set_back-requires-clause-addresses
set_back-requires-clause-addresses c a h =
    let grown = c.settle_within.ensures.grown in
    let listed = subst (λ (l : List ℕ). IsTrue (among l a)) c.deref.ensures.value h in
    let lt = splittable-lt c.args.grid.now.n a (grown.closed.splittable a (grown.logged.same a ∙ listed)) in
    let room = grown.room in omega arith

pub returns-then-not-settle_within : goal.returns-then-not-settle_within
returns-then-not-settle_within c =
    let n : ℕ = c.args.grid.now.n in
    let e : ℕ → ℕ = error_of n c.args.grid.now.heights in
    let i = c.loop-from.invariant in
    let log : List ℕ = c.loop-from.log.items in
    let next : List ℕ = c.settle_within.new.log.items in
    let back : take c.len-mark.result next ≡ log =
    cut log next c.len-mark.result (let at = c.len-mark.ensures in omega arith) c.settle_within.ensures.kept in
    let same : (a : ℕ) → is_flagged c.loop-from.flags a ≡ is_flagged c.set_back.new.flags a =
    λ a. i.grown.logged.same a ∙ ap (λ (l : List ℕ). among l a) (sym back)
    ∙ ap (λ (l : List ℕ). among (take c.len-mark.result l) a) (sym c.deref.ensures.value)
    ∙ sym (c.set_back.ensures.same a) in
    let items : c.truncate.new.self.items ≡ log = c.truncate.ensures.items ∙ back in
    let many : length c.truncate.new.self.items ≡ length log = ap (λ (l : List ℕ). length l) items in
    record {
      capacity = c.truncate.ensures.capacity ∙ c.settle_within.ensures.capacity ∙ i.capacity;
      grown = subst (λ (l : List ℕ). HasLog n c.set_back.new.flags l) (sym items)
          (log-same n c.loop-from.flags c.set_back.new.flags log
          (c.set_back.ensures.flags ∙ c.settle_within.ensures.grown.room ∙ sym i.grown.room) same i.grown);
      few = let few = i.few in omega arith;
      fit = (
        c.loop-from.from,
        i.above,
        settled-same n c.loop-from.from e (is_flagged c.loop-from.flags)
            (is_flagged c.set_back.new.flags) same i.fit,
      );
    }

pub loop-from-preserved : goal.loop-from-preserved
loop-from-preserved c =
    let i = c.loop-from.invariant in
    let is : IsTrue c.settle_within.result = c.if-not-settle_within.false in
    let next = c.greater-next.ensures in
    let more = c.loop-from-test.true in
    record {
      capacity = c.settle_within.ensures.capacity ∙ i.capacity;
      grown = c.settle_within.ensures.grown;
      few = c.settle_within.ensures.within is;
      above = omega arith;
      fit = record {
        settled = c.settle_within.ensures.settled is;
        needed = λ other fine. c.settle_within.ensures.least is other fine
            (i.fit.needed other record { closed = fine.closed; within = let w = fine.within in omega arith });
      };
    }

pub returns : goal.returns
returns c =
    let i = c.loop-from.invariant in
    record {
      capacity = i.capacity;
      grown = i.grown;
      few = i.few;
      fit = (c.loop-from.from, i.above, i.fit);
    }

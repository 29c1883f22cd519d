-- Where forced splits along a list of ranks stop, whatever the order of the list.
-- Words: IsOver, IsStop.
use Rattle.std.specs.Prelude.{◌≡◌, ℕ, ◌<◌, List, length, Option, None, Some, slice_get}
use Rattle.mesh_defs.specs.ClosedSet.{leaves_of, among}
use Rattle.mesh_defs.specs.Ranking.{IsRankClosure, IsBlockedBy}
use Rattle.bintree_addr.specs.declared.blocked.Blocked.{Blocked}
use Rattle.bintree_addr.specs.declared.rank.Rank.{Rank}
use Rattle.mesh_defs.specs.GridSet.{IsForced}
use Rattle.plain_mesh.specs.Ranks.{ranked_triangles}

-- with the triangle and what it forces there are this many leaves, more than the budget
pub record IsOver (n budget : ℕ) (before : List ℕ) (t need : ℕ) : Type 0 where
  pub after : List ℕ
  pub forced : IsForced n before t after
  pub counted : need ≡ length (leaves_of n (among after))
  pub over : budget < need

-- the closure of the longest prefix that fits, the priority of the next entry or 0, and that entry or none
pub record IsStop (n budget : ℕ) (ranks : List Rank) (members : List ℕ) (worst : ℕ)
    (blocked : Option Blocked) : Type 0 where
  pub chosen : ℕ
  pub closure : IsRankClosure n budget (ranked_triangles ranks) chosen (among members)
  pub whole : blocked ≡ None → (chosen ≡ length ranks) × (worst ≡ 0)
  pub next : (b : Blocked) → blocked ≡ Some b →
      (r : Rank) × (slice_get ranks chosen ≡ Some r) × (r.tri ≡ b.tri) × (r.p ≡ worst)
      × IsBlockedBy n (ranked_triangles ranks) chosen b.tri b.need

-- Triangles in slots, linked across their edges, and what halving a triangle and joining its children do to them.
-- Words: nowhere, Net, IsJoined, IsLinked, IsTree, IsHalving, IsJoining.
use Rattle.std.specs.Prelude.{◌≡◌, ◌≢◌, ℕ, ◌+◌, ◌*◌, ◌/◌, ◌%◌, ◌≤◌, ◌<◌, Bool, true, false}
use Rattle.mesh_laws.specs.Edge.{mate_of, owner}

-- the link that stands for no leaf
abbrev pub nowhere : ℕ
nowhere = 4294967295

-- A net of linked triangles: the address of each slot (below 2 where the slot is free), which triangles are
-- split, and the link of a slot across an edge of its triangle.
pub record Net : Type 0 where
  pub at : ℕ → ℕ
  pub split : ℕ → Bool
  pub link : ℕ → ℕ → ℕ

-- The link of an edge is right: it is nowhere where the edge lies on the border, and else the slot of the
-- leaf across, if any slot has that leaf. f is the mate of the edge, or 0.
pub record IsJoined (m : Net) (link f : ℕ) : Type 0 where
  pub border : f ≡ 0 → link ≡ nowhere
  pub slot : (q : ℕ) → 1 ≤ f → m.at q ≡ owner m.split f → link ≡ q

-- every edge of a live slot's triangle has a right link; of a triangle that is split, its base
pub record IsLinked (m : Net) : Type 0 where
  pub joined : (r e : ℕ) → 2 ≤ m.at r → owner m.split e ≡ m.at r → IsJoined m (m.link r e) (mate_of e)

-- the slots are those of a tree: each live triangle's parent is split, and each address has one slot
pub record IsTree (m : Net) : Type 0 where
  pub root : m.split 1 ≡ true
  pub parent : (p : ℕ) → 2 ≤ p → m.split p ≡ true → m.split (p / 2) ≡ true
  pub live : (r : ℕ) → 2 ≤ m.at r → m.split (m.at r / 2) ≡ true
  pub once : (q r : ℕ) → 2 ≤ m.at q → m.at q ≡ m.at r → q ≡ r

-- One triangle a, at slot s, is split into the pair of slots 2k and 2k + 1. Its mate's children, where there
-- are some, have slots already, or get them in the next step.
pub record IsHalving (m w : Net) (s k a : ℕ) : Type 0 where
  pub address : m.at s ≡ a
  pub low : 2 ≤ a
  pub leaf : m.split a ≡ false
  pub mate_childless : 1 ≤ mate_of a → (m.split (2 * mate_of a) ≡ false) × (m.split (2 * mate_of a + 1) ≡ false)
  pub free : (r : ℕ) → r / 2 ≡ k → m.at r < 2
  pub left : w.at (2 * k) ≡ 2 * a
  pub right : w.at (2 * k + 1) ≡ 2 * a + 1
  pub old : (r : ℕ) → r / 2 ≢ k → w.at r ≡ m.at r
  pub added : w.split a ≡ true
  pub kept : (p : ℕ) → p ≢ a → w.split p ≡ m.split p
  pub left_base : w.link (2 * k) (2 * a) ≡ m.link s (2 * a)
  pub right_base : w.link (2 * k + 1) (2 * a + 1) ≡ m.link s (2 * a + 1)
  pub left_inner : w.link (2 * k) (4 * a) ≡ 2 * k + 1
  pub right_inner : w.link (2 * k + 1) (4 * a + 3) ≡ 2 * k
  pub border : mate_of a ≡ 0 → (w.link (2 * k) (4 * a + 1) ≡ nowhere) × (w.link (2 * k + 1) (4 * a + 2) ≡ nowhere)
  pub left_mate : (q : ℕ) → 1 ≤ mate_of a → m.at q ≡ 2 * mate_of a + 1 →
      (w.link (2 * k) (4 * a + 1) ≡ q) × (w.link q (4 * mate_of a + 2) ≡ 2 * k)
  pub right_mate : (q : ℕ) → 1 ≤ mate_of a → m.at q ≡ 2 * mate_of a →
      (w.link (2 * k + 1) (4 * a + 2) ≡ q) × (w.link q (4 * mate_of a + 1) ≡ 2 * k + 1)
  pub turned : (r e : ℕ) → 2 ≤ m.at r → owner m.split e ≡ m.at r → 1 ≤ mate_of e → mate_of e / 2 ≡ a →
      w.link r e ≡ 2 * k + mate_of e % 2
  pub same : (r e : ℕ) → 2 ≤ m.at r → owner m.split e ≡ m.at r → e / 2 ≢ a → mate_of e / 2 ≢ a →
      mate_of e / 4 ≢ a → w.link r e ≡ m.link r e

-- The two children of a, which are leaves in the pair of slots 2k and 2k + 1, are taken away: a, at slot s, is
-- a leaf again.
pub record IsJoining (m w : Net) (s k a : ℕ) : Type 0 where
  pub address : m.at s ≡ a
  pub low : 2 ≤ a
  pub whole_left : m.split (2 * a) ≡ false
  pub whole_right : m.split (2 * a + 1) ≡ false
  pub was_split : m.split a ≡ true
  pub left : m.at (2 * k) ≡ 2 * a
  pub right : m.at (2 * k + 1) ≡ 2 * a + 1
  pub gone : (r : ℕ) → r / 2 ≡ k → w.at r < 2
  pub old : (r : ℕ) → r / 2 ≢ k → w.at r ≡ m.at r
  pub removed : w.split a ≡ false
  pub kept : (p : ℕ) → p ≢ a → w.split p ≡ m.split p
  pub left_leg : w.link s (2 * a) ≡ m.link (2 * k) (2 * a)
  pub right_leg : w.link s (2 * a + 1) ≡ m.link (2 * k + 1) (2 * a + 1)
  pub turned : (r e : ℕ) → 2 ≤ w.at r → owner w.split e ≡ w.at r → 1 ≤ mate_of e → mate_of e / 2 ≡ a → w.link r e ≡ s
  pub same : (r e : ℕ) → 2 ≤ w.at r → owner w.split e ≡ w.at r → e / 2 ≢ a → mate_of e / 2 ≢ a → w.link r e ≡ m.link r e

use Rattle.std.proofs.Common.{◌≡◌, ◌∙◌, rules, ap, sym, subst, ℕ, ◌+◌, ◌*◌, ◌^◌, ◌<◌, List, length, false}
use Rattle.std.proofs.lemmas.Option.{IfSome_then}
use Rattle.mesh_defs.specs.Triangle.{corners_of}
use Rattle.mesh_laws.specs.Slots.{address_at, has_children, IsLive, IsPool, split_set}
use Rattle.mesh_laws.specs.LeafAcross.{IsLeafAcross}
use Rattle.triangle_pool.specs.Links.{IsAcross}
use Rattle.triangle_pool.proofs.LeafLemmas.{IsLeafLink, right_words}
use Rattle.triangle_pool.proofs.pool.Pool.right.Goals as goal

-- what the link says, in the words of what a caller sees
link_words : (n : ℕ) (pairs : List ℕ) (seen_n : ℕ) (seen : List ℕ) (s link : ℕ) → n ≡ seen_n → pairs ≡ seen →
    IsPool n pairs → length pairs < 2 ^ 31 → IsLive seen s → has_children seen (address_at seen s) ≡ false →
    IsAcross pairs (2 * address_at pairs s + 1) link → IsLeafLink seen_n seen (address_at seen s)
    (corners_of seen_n (address_at seen s)).v1 (corners_of seen_n (address_at seen s)).apex link
link_words n pairs seen_n seen s link same_n same pool short live leaf read =
    let words = right_words n pairs s link pool short (subst (λ t. IsLive t s) (sym same) live)
    (ap (λ t. has_children t (address_at t s)) same ∙ leaf) read in
    subst (λ t. IsLeafLink seen_n t (address_at t s) (corners_of seen_n (address_at t s)).v1
    (corners_of seen_n (address_at t s)).apex link) same
    (subst (λ m. IsLeafLink m pairs (address_at pairs s) (corners_of m (address_at pairs s)).v1
    (corners_of m (address_at pairs s)).apex link) same_n words)

pub returns : goal.returns
returns c =
    let words = link_words c.self.inside.nodes.n c.self.inside.nodes.pairs c.args.self.now.n c.args.self.now.pairs
    c.args.s.0 c.right.result (ap (λ p. p.n) c.self.view_is) (ap (λ p. p.pairs) c.self.view_is) c.n-n.ensures.valid
    c.n-n.ensures.short c.requires.leaf.live c.requires.leaf.leaf c.right.ensures in
    record {
      none =
          ((λ none. words.border (c.linked.ensures.none.0 none)), (λ side. c.linked.ensures.none.1 (words.none side)));
      some = IfSome_then c.linked.result c.linked.ensures.some (λ t is. subst (λ x.
          IsLeafAcross c.args.self.now.n (split_set c.args.self.now.pairs) (address_at c.args.self.now.pairs c.args.s.0)
          (corners_of c.args.self.now.n (address_at c.args.self.now.pairs c.args.s.0)).v1 (corners_of c.args.self.now.n
          (address_at c.args.self.now.pairs c.args.s.0)).apex (address_at c.args.self.now.pairs x))
          (sym is.0) (words.some is.1));
      valid = search rules;
    }

-- Links stay right when a triangle is halved, and when two children are joined; what a right link names.
use Rattle.std.proofs.Common.{◌≡◌, ◌≢◌, ◌-◌, ap, sym, ◌∙◌, ◌⊎◌, true, false, ℕ, ◌+◌, ◌*◌, ◌/◌, ◌%◌, ◌<◌, ◌≤◌, arith}
use Rattle.std.proofs.Common.{inl, inr, ⊎_elim}
use Rattle.std.proofs.lemmas.Bool.{cases_eq, cases_lt, cases_Bool}
use Rattle.mesh_defs.specs.Triangle.{level_of}
use Rattle.bintree_laws.proofs.LevelLemmas.{level_of-parent}
use Rattle.mesh_laws.specs.Edge.{mate_of, owner}
use Rattle.mesh_laws.specs.Net.{nowhere, Net, IsJoined, IsLinked, IsTree, IsHalving, IsJoining}
use Rattle.mesh_laws.proofs.OwnerLemmas.{owner-split, owner-whole, owner_cases, owner-same, owner-low, never}
use Rattle.mesh_laws.proofs.OwnerLemmas.{owner-live}
use Rattle.mesh_laws.proofs.MateLemmas.{mate_of-back, mate_of-low, mate_of-level, no_sibling, mate_of-0, mate_of-1}
use Rattle.mesh_laws.proofs.MateLemmas.{mate_of-2, mate_of-3, mate_of-other, mate_of-no_child}

-- a live triangle's parent is split, so nothing below a leaf is live
not_live_below : (m : Net) (r a : ℕ) → IsTree m → 2 ≤ m.at r → m.split a ≡ false → m.at r / 2 ≡ a → ⊥
not_live_below m r a tree live leaf e = never m.split (m.at r / 2) (tree.live r live) (ap m.split e ∙ leaf)

not_live_below_2 : (m : Net) (r a : ℕ) → IsTree m → 2 ≤ m.at r → 2 ≤ a → m.split a ≡ false → m.at r / 4 ≡ a → ⊥
not_live_below_2 m r a tree live low leaf e =
    let up : m.split (m.at r / 2 / 2) ≡ true = tree.parent (m.at r / 2) (omega arith) (tree.live r live) in
    let half : m.at r / 2 / 2 ≡ a = omega arith in
    never m.split a (ap m.split (sym half) ∙ up) leaf

-- ---- halving

-- what a halving says of a new slot: its address
halved_slot : (m w : Net) (s k a r : ℕ) → IsHalving m w s k a → r / 2 ≡ k →
    ((r ≡ 2 * k) × (w.at r ≡ 2 * a)) ⊎ ((r ≡ 2 * k + 1) × (w.at r ≡ 2 * a + 1))
halved_slot m w s k a r h here = ⊎_elim
    (λ even. let e : r ≡ 2 * k = omega arith in inl (e, ap w.at e ∙ h.left))
    (λ odd. let e : r ≡ 2 * k + 1 = omega arith in inr (e, ap w.at e ∙ h.right))
    (cases_lt (r % 2) 1)

-- a live slot with the address of a child is new
new_by_address : (m w : Net) (s k a r : ℕ) → IsTree m → IsHalving m w s k a → w.at r / 2 ≡ a → r ≡ 2 * k + w.at r % 2
new_by_address m w s k a r tree h child =
    let low = h.low in
    elim (cases_eq (r / 2) k) [
      | inl here ↦ elim (halved_slot m w s k a r h here) [
        | inl v ↦ let e = v.0 in let f = v.1 in omega arith
        | inr v ↦ let e = v.0 in let f = v.1 in omega arith
      ]
      | inr other ↦ let keep : w.at r ≡ m.at r = h.old r other in
          absurd (not_live_below m r a tree (omega arith) h.leaf (omega arith))
    ]

-- an edge of a child that was a leg of a has the link that a had
joined_leg : (m w : Net) (s k a e l : ℕ) → IsTree m → IsHalving m w s k a → e / 2 ≡ a → l ≡ m.link s e →
    IsJoined m (m.link s e) (mate_of e) → IsJoined w l (mate_of e)
joined_leg m w s k a e l tree h leg is j =
    let low = h.low in record {
      border = λ none. is ∙ j.border none;
      slot = λ q some there.
          let apart : mate_of e / 2 ≢ e / 2 = no_sibling e (omega arith) some in
          let still : owner w.split (mate_of e) ≡ owner m.split (mate_of e) =
          owner-same w.split m.split (mate_of e) (h.kept (mate_of e / 2) (omega arith)) in
          elim (cases_eq (q / 2) k) [
            | inl new ↦
                let two : 2 ≤ mate_of e = mate_of-low e (omega arith) some in
                let same : level_of (mate_of e) ≡ level_of e = mate_of-level e (omega arith) some in
                let up : level_of e ≡ level_of (e / 2) + 1 = level_of-parent e (omega arith) in
                absurd (elim (owner_cases m.split (mate_of e)) [
                  | inl v ↦ let o = v.1 in elim (halved_slot m w s k a q h new) [
                    | inl u ↦ let f = u.1 in omega arith
                    | inr u ↦ let f = u.1 in omega arith
                  ]
                  | inr v ↦
                      let o = v.1 in
                      let child : mate_of e / 2 / 2 ≡ a = elim (halved_slot m w s k a q h new) [
                        | inl u ↦ let f = u.1 in omega arith
                        | inr u ↦ let f = u.1 in omega arith
                      ] in
                      let deep : level_of (mate_of e) ≡ level_of (mate_of e / 2) + 1 =
                      level_of-parent (mate_of e) (omega arith) in
                      let deeper : level_of (mate_of e / 2) ≡ level_of (mate_of e / 2 / 2) + 1 =
                      level_of-parent (mate_of e / 2) (omega arith) in
                      let there : level_of (mate_of e / 2 / 2) ≡ level_of (e / 2) = ap level_of (child ∙ sym leg) in
                      omega arith
                ])
            | inr other ↦ is ∙ j.slot q some (sym (h.old q other) ∙ there ∙ still)
          ];
    }

-- the children of a are no split triangles
childless : (m w : Net) (s k a p : ℕ) → IsTree m → IsHalving m w s k a → p / 2 ≡ a → w.split p ≡ false
childless m w s k a p tree h child =
    let low = h.low in
    h.kept p (omega arith) ∙ ⊎_elim
    (λ yes. absurd (never m.split a (ap m.split (sym child) ∙ tree.parent p (omega arith) yes) h.leaf))
    (λ no. no) (cases_Bool (m.split p))

-- nor are those of its mate
mate_childless : (m w : Net) (s k a p : ℕ) → IsHalving m w s k a → 1 ≤ mate_of a → p / 2 ≡ mate_of a → w.split p ≡ false
mate_childless m w s k a p h some child =
    let no = mate_of-no_child a h.low some in
    let none = h.mate_childless some in
    ⊎_elim
    (λ even. let e : p ≡ 2 * mate_of a = omega arith in h.kept p (λ same. no.0 (sym e ∙ same)) ∙ ap m.split e ∙ none.0)
    (λ odd.
    let e : p ≡ 2 * mate_of a + 1 = omega arith in
    h.kept p (λ same. no.1 (sym e ∙ same)) ∙ ap m.split e ∙ none.1)
    (cases_lt (p % 2) 1)

-- an edge inside a's half of the diamond, seen from the new slots
joined_inner : (m w : Net) (s k a r e t : ℕ) → IsTree m → IsHalving m w s k a → mate_of e / 4 ≡ a →
    w.split (mate_of e / 2) ≡ false →
    (mate_of e / 2) % 2 ≡ t → w.link r e ≡ 2 * k + t → IsJoined w (w.link r e) (mate_of e)
joined_inner m w s k a r e t tree h inner whole side is =
    let low = h.low in record {
      border = λ none. absurd (omega arith);
      slot = λ q some there.
          let o : w.at q ≡ mate_of e / 2 = there ∙ owner-whole w.split (mate_of e) whole in
          let new : q ≡ 2 * k + w.at q % 2 = new_by_address m w s k a q tree h (omega arith) in
          omega arith;
    }

joined_old : (m w : Net) (s k a r e : ℕ) → IsTree m → IsHalving m w s k a → 2 ≤ m.at r →
    owner m.split e ≡ m.at r → e / 2 ≢ a →
    IsJoined m (m.link r e) (mate_of e) → IsJoined w (w.link r e) (mate_of e)
joined_old m w s k a r e tree h live own apart j =
    let low = h.low in
    let two : 2 ≤ e =
    ⊎_elim (λ v. let o = v.1 in omega arith) (λ v. let o = v.1 in omega arith) (owner_cases m.split e) in
    elim (cases_lt (mate_of e) 1) [
      | inl none ↦ let is : w.link r e ≡ m.link r e = h.same r e live own apart (omega arith) (omega arith) in
          record { border = λ z. is ∙ j.border z; slot = λ q some there. absurd (omega arith) }
      | inr some ↦ elim (cases_eq (mate_of e / 2) a) [
        | inl turn ↦
            let is : w.link r e ≡ 2 * k + mate_of e % 2 = h.turned r e live own some turn in
            record {
              border = λ z. absurd (omega arith);
              slot = λ q _ there.
                  let o : w.at q ≡ mate_of e = there ∙ owner-split w.split (mate_of e) (ap w.split turn ∙ h.added) in
                  let new : q ≡ 2 * k + w.at q % 2 = new_by_address m w s k a q tree h (omega arith) in
                  omega arith;
            }
        | inr still ↦ elim (cases_eq (mate_of e / 4) a) [
          | inl inner ↦
              let back : mate_of (mate_of e) ≡ e = mate_of-back e two some in
              let whole : w.split (mate_of e / 2) ≡ false = childless m w s k a (mate_of e / 2) tree h (omega arith) in
              let of_0 = mate_of-0 a low in
              let of_1 = mate_of-1 a low in
              let of_2 = mate_of-2 a low in
              let of_3 = mate_of-3 a low in
              let dead : (e / 4 ≡ a) → ⊥ = λ below. elim (owner_cases m.split e) [
                | inl v ↦ let o = v.1 in not_live_below_2 m r a tree live low h.leaf (omega arith)
                | inr v ↦ let o = v.1 in not_live_below m r a tree live h.leaf (omega arith)
              ] in
              ⊎_elim (λ first. let f : mate_of e ≡ 4 * a = omega arith in
              let g : mate_of (mate_of e) ≡ 4 * a + 3 = ap mate_of f ∙ of_0 in absurd (dead (omega arith)))
              (λ not_first. ⊎_elim (λ second. let f : mate_of e ≡ 4 * a + 1 = omega arith in
              let g : mate_of (mate_of e) ≡ mate_of (4 * a + 1) = ap mate_of f in
              ⊎_elim (λ lone. absurd (let z = of_1.0 (omega arith) in omega arith))
              (λ mate. let z : e ≡ 4 * mate_of a + 2 = let y = of_1.1 mate in omega arith in
              let none : m.split (e / 2) ≡ false =
              ap m.split (let x : e / 2 ≡ 2 * mate_of a + 1 = omega arith in x) ∙ (h.mate_childless mate).1 in
              let at : m.at r ≡ 2 * mate_of a + 1 =
              sym own ∙ owner-whole m.split e none ∙ (let x : e / 2 ≡ 2 * mate_of a + 1 = omega arith in x) in
              joined_inner m w s k a r e 0 tree h inner whole (omega arith)
              (ap (w.link r) z ∙ (h.left_mate r mate at).1 ∙ (let x : 2 * k ≡ 2 * k + 0 = omega arith in x)))
              (cases_lt (mate_of a) 1))
              (λ not_second. ⊎_elim (λ third. let f : mate_of e ≡ 4 * a + 2 = omega arith in
              let g : mate_of (mate_of e) ≡ mate_of (4 * a + 2) = ap mate_of f in
              ⊎_elim (λ lone. absurd (let z = of_2.0 (omega arith) in omega arith))
              (λ mate. let z : e ≡ 4 * mate_of a + 1 = let y = of_2.1 mate in omega arith in
              let none : m.split (e / 2) ≡ false =
              ap m.split (let x : e / 2 ≡ 2 * mate_of a = omega arith in x) ∙ (h.mate_childless mate).0 in
              let at : m.at r ≡ 2 * mate_of a =
              sym own ∙ owner-whole m.split e none ∙ (let x : e / 2 ≡ 2 * mate_of a = omega arith in x) in
              joined_inner m w s k a r e 1 tree h inner whole (omega arith)
              (ap (w.link r) z ∙ (h.right_mate r mate at).1))
              (cases_lt (mate_of a) 1))
              (λ not_third. let f : mate_of e ≡ 4 * a + 3 = omega arith in
              let g : mate_of (mate_of e) ≡ 4 * a = ap mate_of f ∙ of_3 in absurd (dead (omega arith)))
              (cases_lt (mate_of e % 4) 3)) (cases_lt (mate_of e % 4) 2)) (cases_lt (mate_of e % 4) 1)
          | inr outer ↦
              let is : w.link r e ≡ m.link r e = h.same r e live own apart still outer in
              let same : owner w.split (mate_of e) ≡ owner m.split (mate_of e) =
              owner-same w.split m.split (mate_of e) (h.kept (mate_of e / 2) still) in
              record {
                border = λ z. absurd (omega arith);
                slot = λ q _ there. elim (cases_eq (q / 2) k) [
                  | inl new ↦ absurd (elim (owner_cases m.split (mate_of e)) [
                    | inl v ↦ let o = v.1 in elim (halved_slot m w s k a q h new) [
                      | inl u ↦ let f = u.1 in still (omega arith)
                      | inr u ↦ let f = u.1 in still (omega arith)
                    ]
                    | inr v ↦ let o = v.1 in elim (halved_slot m w s k a q h new) [
                      | inl u ↦ let f = u.1 in outer (omega arith)
                      | inr u ↦ let f = u.1 in outer (omega arith)
                    ]
                  ])
                  | inr other ↦ is ∙ j.slot q some (sym (h.old q other) ∙ there ∙ same)
                ];
              }
        ]
      ]
    ]

-- the edge between the two halves of the diamond, at a's side
joined_mate : (m w : Net) (s k a r e c : ℕ) → IsTree m → IsHalving m w s k a → 1 ≤ mate_of a →
    mate_of e ≡ 4 * mate_of a + c → c < 4 →
    2 ≤ c / 2 + 2 → ((q : ℕ) → m.at q ≡ 2 * mate_of a + c / 2 → w.link r e ≡ q) → IsJoined w (w.link r e) (mate_of e)
joined_mate m w s k a r e c tree h mate is small _ right =
    let low = h.low in
    let b : 2 ≤ mate_of a = mate_of-low a low mate in
    let other = mate_of-other a low mate in record {
      border = λ none. absurd (omega arith);
      slot = λ q some there.
          let o : w.at q ≡ mate_of e / 2 =
          there ∙ owner-whole w.split (mate_of e) (mate_childless m w s k a (mate_of e / 2) h mate (omega arith)) in
          elim (cases_eq (q / 2) k) [
            | inl new ↦ absurd (elim (halved_slot m w s k a q h new) [
              | inl u ↦ let f = u.1 in other (omega arith)
              | inr u ↦ let f = u.1 in other (omega arith)
            ])
            | inr old ↦ let keep : w.at q ≡ m.at q = h.old q old in right q (omega arith)
          ];
    }

joined_new : (m w : Net) (s k a r e : ℕ) → IsTree m → IsHalving m w s k a → r / 2 ≡ k →
    owner w.split e ≡ w.at r → e / 2 ≢ a →
    IsJoined w (w.link r e) (mate_of e)
joined_new m w s k a r e tree h here own apart =
    let low = h.low in
    let up : e / 2 ≡ w.at r = elim (owner_cases w.split e) [
      | inl v ↦ let o = v.1 in absurd (elim (halved_slot m w s k a r h here) [
        | inl u ↦ let f = u.1 in apart (omega arith)
        | inr u ↦ let f = u.1 in apart (omega arith)
      ])
      | inr v ↦ let o = v.1 in omega arith
    ] in
    let of_0 = mate_of-0 a low in
    let of_1 = mate_of-1 a low in
    let of_2 = mate_of-2 a low in
    let of_3 = mate_of-3 a low in
    elim (halved_slot m w s k a r h here) [
      | inl u ↦ let is = u.0 in let f = u.1 in
          ⊎_elim (λ even. let z : e ≡ 4 * a = omega arith in let g : mate_of e ≡ 4 * a + 3 = ap mate_of z ∙ of_0 in
          joined_inner m w s k a r e 1 tree h (omega arith)
          (childless m w s k a (mate_of e / 2) tree h (omega arith)) (omega arith)
          (ap (λ t. w.link t e) is ∙ ap (w.link (2 * k)) z ∙ h.left_inner))
          (λ odd. let z : e ≡ 4 * a + 1 = omega arith in let g : mate_of e ≡ mate_of (4 * a + 1) = ap mate_of z in
          ⊎_elim (λ lone. let y = of_1.0 (omega arith) in
          record {
            border = λ _. ap (λ t. w.link t e) is ∙ ap (w.link (2 * k)) z ∙ (h.border (omega arith)).0;
            slot = λ q some there. absurd (omega arith);
          })
          (λ mate. let y = of_1.1 mate in
          joined_mate m w s k a r e 2 tree h mate (omega arith) (omega arith) (omega arith)
          (λ q at. ap (λ t. w.link t e) is ∙ ap (w.link (2 * k)) z ∙ (h.left_mate q mate at).0))
          (cases_lt (mate_of a) 1))
          (cases_lt (e % 2) 1)
      | inr u ↦ let is = u.0 in let f = u.1 in
          ⊎_elim (λ even. let z : e ≡ 4 * a + 2 = omega arith in
          let g : mate_of e ≡ mate_of (4 * a + 2) = ap mate_of z in
          ⊎_elim (λ lone. let y = of_2.0 (omega arith) in
          record {
            border = λ _. ap (λ t. w.link t e) is ∙ ap (w.link (2 * k + 1)) z ∙ (h.border (omega arith)).1;
            slot = λ q some there. absurd (omega arith);
          })
          (λ mate. let y = of_2.1 mate in
          joined_mate m w s k a r e 1 tree h mate (omega arith) (omega arith) (omega arith)
          (λ q at. ap (λ t. w.link t e) is ∙ ap (w.link (2 * k + 1)) z ∙ (h.right_mate q mate (let x : m.at q
          ≡ 2 * mate_of a = at ∙ (let x : 2 * mate_of a + 1 / 2 ≡ 2 * mate_of a = omega arith in x) in x)).0))
          (cases_lt (mate_of a) 1))
          (λ odd. let z : e ≡ 4 * a + 3 = omega arith in let g : mate_of e ≡ 4 * a = ap mate_of z ∙ of_3 in
          joined_inner m w s k a r e 0 tree h (omega arith)
          (childless m w s k a (mate_of e / 2) tree h (omega arith)) (omega arith)
          (ap (λ t. w.link t e) is ∙ ap (w.link (2 * k + 1)) z ∙ h.right_inner
          ∙ (let x : 2 * k ≡ 2 * k + 0 = omega arith in x)))
          (cases_lt (e % 2) 1)
    ]

-- Links are right after a halving.
pub IsLinked-halving : (m w : Net) (s k a : ℕ) → IsTree m → IsHalving m w s k a → IsLinked m → IsLinked w
IsLinked-halving m w s k a tree h linked = record {
  joined = λ r e live own. let low = h.low in elim (cases_eq (e / 2) a) [
    | inl leg ↦
        let o : w.at r ≡ e = sym own ∙ owner-split w.split e (ap w.split leg ∙ h.added) in
        let new : r ≡ 2 * k + w.at r % 2 = new_by_address m w s k a r tree h (omega arith) in
        let old : IsJoined m (m.link s e) (mate_of e) =
        linked.joined s e (let x : 2 ≤ a = low in let y : m.at s ≡ a = h.address in omega arith)
        (owner-whole m.split e (ap m.split leg ∙ h.leaf) ∙ leg ∙ sym h.address) in
        joined_leg m w s k a e (w.link r e) tree h leg
        (⊎_elim (λ even. let z : e ≡ 2 * a = omega arith in let is : r ≡ 2 * k = omega arith in
        ap (λ t. w.link t e) is ∙ ap (w.link (2 * k)) z ∙ h.left_base ∙ ap (m.link s) (sym z))
        (λ odd. let z : e ≡ 2 * a + 1 = omega arith in let is : r ≡ 2 * k + 1 = omega arith in
        ap (λ t. w.link t e) is ∙ ap (w.link (2 * k + 1)) z ∙ h.right_base ∙ ap (m.link s) (sym z))
        (cases_lt (e % 2) 1)) old
    | inr apart ↦ elim (cases_eq (r / 2) k) [
      | inl new ↦ joined_new m w s k a r e tree h new own apart
      | inr other ↦
          let keep : w.at r ≡ m.at r = h.old r other in
          let o : owner m.split e ≡ m.at r = owner-same m.split w.split e (sym (h.kept (e / 2) apart)) ∙ own ∙ keep in
          joined_old m w s k a r e tree h (omega arith) o apart (linked.joined r e (omega arith) o)
    ]
  ];
}

-- And the slots are still those of a tree.
pub IsTree-halving : (m w : Net) (s k a : ℕ) → IsTree m → IsHalving m w s k a → m.split (a / 2) ≡ true → IsTree w
IsTree-halving m w s k a tree h up =
    let low = h.low in
    let more : (p : ℕ) → m.split p ≡ true → w.split p ≡ true = λ p yes. elim (cases_eq p a) [
      | inl same ↦ ap w.split same ∙ h.added
      | inr other ↦ h.kept p other ∙ yes
    ] in record {
      root = more 1 tree.root;
      parent = λ p two yes. elim (cases_eq p a) [
        | inl same ↦ more (p / 2) (ap (λ t. m.split (t / 2)) same ∙ up)
        | inr other ↦ more (p / 2) (tree.parent p two (sym (h.kept p other) ∙ yes))
      ];
      live = λ r two. elim (cases_eq (r / 2) k) [
        | inl new ↦ elim (halved_slot m w s k a r h new) [
          | inl u ↦ let f = u.1 in let x : w.at r / 2 ≡ a = omega arith in ap w.split x ∙ h.added
          | inr u ↦ let f = u.1 in let x : w.at r / 2 ≡ a = omega arith in ap w.split x ∙ h.added
        ]
        | inr other ↦ let keep : w.at r ≡ m.at r = h.old r other in
            more (w.at r / 2) (ap (λ t. m.split (t / 2)) keep ∙ tree.live r (omega arith))
      ];
      once = λ q r two same. elim (cases_eq (q / 2) k) [
        | inl new ↦ elim (halved_slot m w s k a q h new) [
          | inl u ↦
              let f = u.1 in
              let g = u.0 in
              let n : r ≡ 2 * k + w.at r % 2 = new_by_address m w s k a r tree h (omega arith) in
              omega arith
          | inr u ↦
              let f = u.1 in
              let g = u.0 in
              let n : r ≡ 2 * k + w.at r % 2 = new_by_address m w s k a r tree h (omega arith) in
              omega arith
        ]
        | inr other ↦ elim (cases_eq (r / 2) k) [
          | inl new ↦ elim (halved_slot m w s k a r h new) [
            | inl u ↦
                let f = u.1 in
                let g = u.0 in
                let n : q ≡ 2 * k + w.at q % 2 = new_by_address m w s k a q tree h (omega arith) in
                omega arith
            | inr u ↦
                let f = u.1 in
                let g = u.0 in
                let n : q ≡ 2 * k + w.at q % 2 = new_by_address m w s k a q tree h (omega arith) in
                omega arith
          ]
          | inr also ↦ let keep : w.at q ≡ m.at q = h.old q other in let keeps : w.at r ≡ m.at r = h.old r also in
              tree.once q r (omega arith) (omega arith)
        ]
      ];
    }

-- ---- joining

-- what is live was live, and at the same address
joined_live : (m w : Net) (s k a r : ℕ) → IsJoining m w s k a → 2 ≤ w.at r → (r / 2 ≢ k) × (w.at r ≡ m.at r)
joined_live m w s k a r h live =
    let other : r / 2 ≢ k = λ here. let g = h.gone r here in omega arith in (other, h.old r other)

-- a live slot's triangle is no child of a
no_child : (m w : Net) (s k a r : ℕ) → IsTree m → IsJoining m w s k a → 2 ≤ w.at r → w.at r / 2 ≢ a
no_child m w s k a r tree h live child =
    let low = h.low in let left = h.left in let right = h.right in
    let old = joined_live m w s k a r h live in
    let apart = old.0 in let keep = old.1 in
    ⊎_elim (λ even. let e : r ≡ 2 * k = tree.once r (2 * k) (omega arith) (omega arith) in apart (omega arith))
    (λ odd. let e : r ≡ 2 * k + 1 = tree.once r (2 * k + 1) (omega arith) (omega arith) in apart (omega arith))
    (cases_lt (w.at r % 2) 1)

-- Links are right after a joining.
pub IsLinked-joining : (m w : Net) (s k a : ℕ) → IsTree m → IsJoining m w s k a → IsLinked m → IsLinked w
IsLinked-joining m w s k a tree h linked = record {
  joined = λ r e live own. let low = h.low in let here = h.address in elim (cases_eq (e / 2) a) [
    | inl leg ↦
        let at : w.at r ≡ a = sym own ∙ owner-whole w.split e (ap w.split leg ∙ h.removed) ∙ leg in
        let keep = (joined_live m w s k a r h live).1 in
        let is : r ≡ s = tree.once r s (omega arith) (omega arith) in
        let own_child : owner m.split e ≡ e = owner-split m.split e (ap m.split leg ∙ h.was_split) in
        let legs : (x : ℕ) → 2 ≤ m.at x → m.at x ≡ e → w.link r e ≡ m.link x e → IsJoined w (w.link r e) (mate_of e) =
        λ x at_low at_x is_link.
        let j : IsJoined m (m.link x e) (mate_of e) = linked.joined x e at_low (own_child ∙ sym at_x) in record {
          border = λ none. is_link ∙ j.border none;
          slot = λ q some there.
              let apart : mate_of e / 2 ≢ e / 2 = no_sibling e (omega arith) some in
              let two : 2 ≤ mate_of e = mate_of-low e (omega arith) some in
              let still : owner w.split (mate_of e) ≡ owner m.split (mate_of e) =
              owner-same w.split m.split (mate_of e) (h.kept (mate_of e / 2) (omega arith)) in
              let q_low : 2 ≤ w.at q =
              let o = owner-low w.split (mate_of e) (h.kept 1 (omega arith) ∙ tree.root) two in omega arith in
              is_link ∙ j.slot q some (sym (joined_live m w s k a q h q_low).1 ∙ there ∙ still);
        } in
        ⊎_elim (λ even. let z : e ≡ 2 * a = omega arith in
        legs (2 * k) (let l = h.left in omega arith) (let l = h.left in omega arith)
        (ap (λ t. w.link t e) is ∙ ap (w.link s) z ∙ h.left_leg ∙ ap (m.link (2 * k)) (sym z)))
        (λ odd. let z : e ≡ 2 * a + 1 = omega arith in
        legs (2 * k + 1) (let l = h.right in omega arith) (let l = h.right in omega arith)
        (ap (λ t. w.link t e) is ∙ ap (w.link s) z ∙ h.right_leg ∙ ap (m.link (2 * k + 1)) (sym z)))
        (cases_lt (e % 2) 1)
    | inr apart ↦
        let keep : w.at r ≡ m.at r = (joined_live m w s k a r h live).1 in
        let o : owner m.split e ≡ m.at r = owner-same m.split w.split e (sym (h.kept (e / 2) apart)) ∙ own ∙ keep in
        let j : IsJoined m (m.link r e) (mate_of e) = linked.joined r e (omega arith) o in
        elim (cases_lt (mate_of e) 1) [
          | inl none ↦ record {
            border = λ z. h.same r e live own apart (omega arith) ∙ j.border z;
            slot = λ q some there. absurd (omega arith);
          }
          | inr some ↦ elim (cases_eq (mate_of e / 2) a) [
            | inl turn ↦ record {
              border = λ z. absurd (omega arith);
              slot = λ q _ there.
                  let at : w.at q ≡ a = there ∙ owner-whole w.split (mate_of e) (ap w.split turn ∙ h.removed) ∙ turn in
                  let q_keep = (joined_live m w s k a q h (omega arith)).1 in
                  let is : q ≡ s = tree.once q s (omega arith) (omega arith) in
                  h.turned r e live own some turn ∙ sym is;
            }
            | inr still ↦ record {
              border = λ z. absurd (omega arith);
              slot = λ q _ there.
                  let same : owner w.split (mate_of e) ≡ owner m.split (mate_of e) =
                  owner-same w.split m.split (mate_of e) (h.kept (mate_of e / 2) still) in
                  let e_low : 2 ≤ e = elim (owner_cases w.split e) [
                    | inl v ↦ let o = v.1 in omega arith
                    | inr v ↦ let o = v.1 in omega arith
                  ] in
                  let two : 2 ≤ mate_of e = mate_of-low e e_low some in
                  let q_low : 2 ≤ w.at q =
                  let o = owner-low w.split (mate_of e) (h.kept 1 (omega arith) ∙ tree.root) two in omega arith in
                  h.same r e live own apart still
                  ∙ j.slot q some (sym (joined_live m w s k a q h q_low).1 ∙ there ∙ same);
            }
          ]
        ]
  ];
}

-- And the slots are still those of a tree.
pub IsTree-joining : (m w : Net) (s k a : ℕ) → IsTree m → IsJoining m w s k a → IsTree w
IsTree-joining m w s k a tree h =
    let low = h.low in
    let not_a : (p : ℕ) → w.split p ≡ true → p ≢ a = λ p yes same. never w.split p yes (ap w.split same ∙ h.removed) in
    record {
      root = h.kept 1 (omega arith) ∙ tree.root;
      parent = λ p two yes.
          let old : m.split p ≡ true = sym (h.kept p (not_a p yes)) ∙ yes in
          h.kept (p / 2) (λ child. ⊎_elim
          (λ even. let z : p ≡ 2 * a = omega arith in never m.split p old (ap m.split z ∙ h.whole_left))
          (λ odd. let z : p ≡ 2 * a + 1 = omega arith in never m.split p old (ap m.split z ∙ h.whole_right))
          (cases_lt (p % 2) 1)) ∙ tree.parent p two old;
      live = λ r two.
          let keep = (joined_live m w s k a r h two).1 in
          h.kept (w.at r / 2) (no_child m w s k a r tree h two) ∙ ap (λ t. m.split (t / 2)) keep
          ∙ tree.live r (omega arith);
      once = λ q r two same.
          let keep = (joined_live m w s k a q h two).1 in let keeps = (joined_live m w s k a r h (omega arith)).1 in
          tree.once q r (omega arith) (omega arith);
    }

-- ---- reading a link: in a closed tree the leaf across is live

-- what is split has its children in slots, and is closed under mates
pub record IsWhole (m : Net) : Type 0 where
  pub tree : IsTree m
  pub mate : (p : ℕ) → 2 ≤ p → m.split p ≡ true → 1 ≤ mate_of p → m.split (mate_of p) ≡ true
  pub slot_of : (c : ℕ) → 2 ≤ c → m.split (c / 2) ≡ true → (q : ℕ) × (m.at q ≡ c)

-- the same for a live slot of a net
link-live : (m : Net) (r e : ℕ) → IsWhole m → 2 ≤ m.at r → owner m.split e ≡ m.at r → 1 ≤ mate_of e →
    m.split (owner m.split (mate_of e) / 2) ≡ true
link-live m r e whole live own some =
    let two : 2 ≤ e = elim (owner_cases m.split e) [
      | inl v ↦ let o = v.1 in omega arith
      | inr v ↦ let o = v.1 in omega arith
    ] in
    owner-live m.split e (record { root = whole.tree.root; parent = whole.tree.parent; mate = whole.mate }) two
    (ap (λ t. m.split (t / 2)) own ∙ whole.tree.live r live) some

-- Reading: a link is nowhere where there is no leaf across, and else the slot of the leaf across.
pub read_link : (m : Net) (r e : ℕ) → IsWhole m → IsLinked m → 2 ≤ m.at r → owner m.split e ≡ m.at r →
    ((mate_of e ≡ 0) × (m.link r e ≡ nowhere)) ⊎ ((1 ≤ mate_of e) × (m.at (m.link r e) ≡ owner m.split (mate_of e)))
read_link m r e whole linked live own =
    let j : IsJoined m (m.link r e) (mate_of e) = linked.joined r e live own in
    let two : 2 ≤ e = elim (owner_cases m.split e) [
      | inl v ↦ let o = v.1 in omega arith
      | inr v ↦ let o = v.1 in omega arith
    ] in
    ⊎_elim (λ none. let z : mate_of e ≡ 0 = omega arith in inl (z, j.border z))
    (λ some.
    let q = whole.slot_of (owner m.split (mate_of e))
    (owner-low m.split (mate_of e) whole.tree.root (mate_of-low e two some))
    (link-live m r e whole live own some) in
    inr (some, ap m.at (j.slot q.0 some q.1) ∙ q.1))
    (cases_lt (mate_of e) 1)

-- The same where some more triangles are split, so that the set is not closed any more.
pub read_more : (m w : Net) (r e : ℕ) → IsWhole m → IsLinked w → w.split 1 ≡ true →
    ((c : ℕ) → 2 ≤ c → w.split (c / 2) ≡ true → (q : ℕ) × (w.at q ≡ c)) →
    ((p : ℕ) → m.split p ≡ true → w.split p ≡ true) →
    2 ≤ m.at r → owner m.split e ≡ m.at r → 2 ≤ w.at r → owner w.split e ≡ w.at r →
    ((mate_of e ≡ 0) × (w.link r e ≡ nowhere)) ⊎ ((1 ≤ mate_of e) × (w.at (w.link r e) ≡ owner w.split (mate_of e)))
read_more m w r e whole linked root slot_of more live own w_live w_own =
    let j : IsJoined w (w.link r e) (mate_of e) = linked.joined r e w_live w_own in
    let two : 2 ≤ e = elim (owner_cases m.split e) [
      | inl v ↦ let o = v.1 in omega arith
      | inr v ↦ let o = v.1 in omega arith
    ] in
    ⊎_elim (λ none. let z : mate_of e ≡ 0 = omega arith in inl (z, j.border z))
    (λ some.
    let low : 2 ≤ owner w.split (mate_of e) = owner-low w.split (mate_of e) root (mate_of-low e two some) in
    let up : w.split (owner w.split (mate_of e) / 2) ≡ true = elim (owner_cases w.split (mate_of e)) [
      | inl v ↦ ap (λ t. w.split (t / 2)) v.1 ∙ v.0
      | inr v ↦
          let old : m.split (owner m.split (mate_of e) / 2) ≡ true = link-live m r e whole live own some in
          elim (owner_cases m.split (mate_of e)) [
            | inl u ↦ absurd (never w.split (mate_of e / 2) (more (mate_of e / 2) u.0) v.0)
            | inr u ↦ ap (λ t. w.split (t / 2)) (v.1 ∙ sym u.1) ∙ more (owner m.split (mate_of e) / 2) old
          ]
    ] in
    let q = slot_of (owner w.split (mate_of e)) low up in
    inr (some, ap w.at (j.slot q.0 some q.1) ∙ q.1))
    (cases_lt (mate_of e) 1)

-- The same where a's children are gone, for the edges that are the bases of the children of a's mate.
pub read_less : (m w : Net) (r e a : ℕ) → IsWhole m → IsLinked w → w.split 1 ≡ true →
    ((c : ℕ) → 2 ≤ c → w.split (c / 2) ≡ true → (q : ℕ) × (w.at q ≡ c)) →
    ((p : ℕ) → p ≢ a → w.split p ≡ m.split p) → m.split a ≡ true → 2 ≤ a → 1 ≤ mate_of a → e / 2 ≡ mate_of a →
    2 ≤ m.at r → owner m.split e ≡ m.at r → 2 ≤ w.at r → owner w.split e ≡ w.at r →
    ((mate_of e ≡ 0) × (w.link r e ≡ nowhere)) ⊎ ((1 ≤ mate_of e) × (w.at (w.link r e) ≡ owner w.split (mate_of e)))
read_less m w r e a whole linked root slot_of kept was low mate half live own w_live w_own =
    let j : IsJoined w (w.link r e) (mate_of e) = linked.joined r e w_live w_own in
    let b = mate_of-low a low mate in
    let same_level : level_of (mate_of a) ≡ level_of a = mate_of-level a low mate in
    let two : 2 ≤ e = omega arith in
    let e_level : level_of e ≡ level_of (e / 2) + 1 = level_of-parent e (omega arith) in
    let half_level : level_of (e / 2) ≡ level_of (mate_of a) = ap level_of half in
    ⊎_elim (λ none. let z : mate_of e ≡ 0 = omega arith in inl (z, j.border z))
    (λ some.
    let f_two : 2 ≤ mate_of e = mate_of-low e two some in
    let f_level : level_of (mate_of e) ≡ level_of e = mate_of-level e two some in
    let f_low : 2 ≤ owner w.split (mate_of e) = owner-low w.split (mate_of e) root f_two in
    let up : w.split (owner w.split (mate_of e) / 2) ≡ true = elim (owner_cases w.split (mate_of e)) [
      | inl v ↦ ap (λ t. w.split (t / 2)) v.1 ∙ v.0
      | inr v ↦ elim (cases_eq (mate_of e / 2) a) [
        | inl turn ↦ let z : owner w.split (mate_of e) / 2 ≡ a / 2 = let o = v.1 in omega arith in
            ap w.split z ∙ kept (a / 2) (omega arith) ∙ whole.tree.parent a low was
        | inr still ↦
            let old : owner m.split (mate_of e) ≡ mate_of e / 2 =
            owner-whole m.split (mate_of e) (sym (kept (mate_of e / 2) still) ∙ v.0) in
            let up_old : m.split (owner m.split (mate_of e) / 2) ≡ true = link-live m r e whole live own some in
            let z : owner w.split (mate_of e) / 2 ≡ owner m.split (mate_of e) / 2 = let o = v.1 in omega arith in
            let apart : owner m.split (mate_of e) / 2 ≢ a = λ deep_is.
            let quarter : mate_of e / 2 / 2 ≡ a = omega arith in
            let l1 : level_of (mate_of e) ≡ level_of (mate_of e / 2) + 1 = level_of-parent (mate_of e) (omega arith) in
            let l2 : level_of (mate_of e / 2) ≡ level_of (mate_of e / 2 / 2) + 1 =
            level_of-parent (mate_of e / 2) (omega arith) in
            let l3 : level_of (mate_of e / 2 / 2) ≡ level_of a = ap level_of quarter in omega arith in
            ap w.split z ∙ kept (owner m.split (mate_of e) / 2) apart ∙ up_old
      ]
    ] in
    let q = slot_of (owner w.split (mate_of e)) f_low up in
    inr (some, ap w.at (j.slot q.0 some q.1) ∙ q.1))
    (cases_lt (mate_of e) 1)

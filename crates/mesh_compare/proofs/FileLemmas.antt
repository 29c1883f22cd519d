-- What is left of a file while it is read.
use Rattle.std.proofs.Common.{◌≡◌, ℕ, ◌≤◌, List, [], ◌++◌, length, take, drop, Option, Some, None, refl, sym, ap, ◌∙◌}
use Rattle.std.proofs.Common.{append_assoc, take-append-drop, length-append, arith}
use Rattle.std.proofs.Math.Seq.{take-append_seam}
use Rattle.std.proofs.lemmas.List.{length-take-le, take-take, take-append-le}
use Rattle.mesh_compare.specs.Differs.{left_of, HasFront}

-- with no byte in the window
pub left-nothing : (window : List ℕ) (unread : Option (List ℕ)) → window ≡ [] → left_of window unread ≡ unread
left-nothing window None none = refl
left-nothing window (Some bytes) none = ap (λ w. Some (w ++ bytes)) none

-- the file begins with no byte
pub front-none : (file : Option (List ℕ)) → HasFront [] file file
front-none file bytes is = (bytes, is, refl)

-- one front behind another
pub front-then : (front more : List ℕ) (file left left' : Option (List ℕ)) → HasFront front file left →
    HasFront more left left' →
    HasFront (front ++ more) file left'
front-then front more file left left' has then bytes is =
    let first = has bytes is in
    let second = then first.0 first.1 in
    (second.0, second.1, first.2 ∙ ap (λ t. front ++ t) second.2 ∙ sym (append_assoc front more second.0))

-- a read into the front of a window of this length
pub left-filled : (count len : ℕ) (bytes old new behind : List ℕ) (unread : Option (List ℕ)) →
    count ≤ len → count ≤ length bytes →
    unread ≡ Some (drop count bytes) → new ≡ take count bytes ++ drop count old →
    left_of (take count (take len (new ++ behind))) unread ≡ Some bytes
left-filled count len bytes old new behind unread room within takes gives =
    let front = length-take-le count bytes within in
    let long = ap length gives ∙ length-append (take count bytes) (drop count old) in
    ap (λ o. left_of (take count (take len (new ++ behind))) o) takes
    ∙ ap (λ w. Some (w ++ drop count bytes)) (take-take count len (new ++ behind) room
    ∙ take-append-le count new behind (omega arith)
    ∙ ap (take count) gives
    ∙ ap (λ k. take k (take count bytes ++ drop count old)) (sym front)
    ∙ take-append_seam (take count bytes) (drop count old))
    ∙ ap Some (take-append-drop count bytes)

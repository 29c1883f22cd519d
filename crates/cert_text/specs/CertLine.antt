-- The line of a certificate that some bytes are. This project's own format; fields are cut as those of a script.
--
-- Words: Word, line_word, is_camera_coordinate, camera_of, camera_fields, leaf_fields, reason_fields, word_line,
-- cert_fields_line, read_cert_line, cert_line_is, IsLineOf.
use Rattle.std.specs.Prelude.{◌≡◌, refl, ℕ, ◌+◌, ◌*◌, ◌^◌, Bool, ◌&&◌, nat_le, if◌then◌else◌, List, [], ◌∷◌}
use Rattle.std.specs.Prelude.{Option, Some, None, option_map, codes, bytes_eq, ℤ, unsigned_abs}
use Rattle.mesh_defs.specs.Triangle.{IsAddress, IsSplittable}
use Rattle.text_laws.specs.Numbers.{signed_in}
use Rattle.cert_text.specs.Lines.{line_of, address_in}
use Rattle.certificate_laws.specs.declared.reason.Kind.{Kind}
use Rattle.certificate_laws.specs.declared.reason.Kind.TheVariants.{Want, Parent, Mate}
use Rattle.cert_text.specs.declared.cert_line.CertLine.{CertLine}
use Rattle.cert_text.specs.declared.cert_line.CertLine.TheVariants.{CameraLine, LeafLine, ReasonLine}
use Rattle.cert_text.specs.declared.cert_line.Word.{Word}
use Rattle.cert_text.specs.declared.cert_line.Word.TheVariants as word

-- the word that the first field of a line is
abbrev pub line_word : List ℕ → Option Word
line_word field =
    if bytes_eq field (codes "camera") then Some word.Camera
    else (if bytes_eq field (codes "leaf") then Some word.Leaf
    else (if bytes_eq field (codes "want") then Some (word.Because Want)
    else (if bytes_eq field (codes "parent") then Some (word.Because Parent)
    else (if bytes_eq field (codes "mate") then Some (word.Because Mate) else None))))

-- a coordinate of a camera is at most 2 ^ 30 in size
abbrev pub is_camera_coordinate : ℤ → Bool
is_camera_coordinate v = nat_le (unsigned_abs v) (2 ^ 30)

-- the camera line of what its three fields are
abbrev pub camera_of : Option ℤ → Option ℤ → Option ℤ → Option CertLine
camera_of (Some x) (Some y) (Some z) =
    if is_camera_coordinate x && (is_camera_coordinate y && is_camera_coordinate z)
    then Some (CameraLine (record { x = x; y = y; z = z })) else None
camera_of _ _ _ = None

-- three numbers
abbrev pub camera_fields : List (List ℕ) → Option CertLine
camera_fields (x ∷ (y ∷ (z ∷ []))) = camera_of (signed_in x) (signed_in y) (signed_in z)
camera_fields _ = None

-- one address, of a triangle of the grid
abbrev pub leaf_fields : ℕ → List (List ℕ) → Option CertLine
leaf_fields n (field ∷ []) = option_map (λ a. LeafLine a) (address_in (2 ^ (2 * n + 2)) field)
leaf_fields n _ = None

-- one address, of a triangle of the grid that may be split
abbrev pub reason_fields : ℕ → Kind → List (List ℕ) → Option CertLine
reason_fields n kind (field ∷ []) =
    option_map (λ a. ReasonLine (record { kind = kind; triangle = a })) (address_in (2 ^ (2 * n + 1)) field)
reason_fields n kind _ = None

-- the line of a word and the fields behind it
abbrev pub word_line : ℕ → Option Word → List (List ℕ) → Option CertLine
word_line n None fields = None
word_line n (Some word.Camera) fields = camera_fields fields
word_line n (Some word.Leaf) fields = leaf_fields n fields
word_line n (Some (word.Because kind)) fields = reason_fields n kind fields

-- the line of these fields; there is none without a field
abbrev pub cert_fields_line : ℕ → List (List ℕ) → Option CertLine
cert_fields_line n [] = None
cert_fields_line n (first ∷ fields) = word_line n (line_word first) fields

-- The line that these bytes are, of a certificate of the grid with this n.
unfoldable pub read_cert_line : ℕ → List ℕ → Option CertLine
read_cert_line n bytes = line_of (cert_fields_line n) bytes

-- it is what its fields say
pub cert_line_is : (n : ℕ) (bytes : List ℕ) → read_cert_line n bytes ≡ line_of (cert_fields_line n) bytes
unfolding read_cert_line
cert_line_is n bytes = refl

-- the triangle of the line is one of the grid with this n; that of a reason may be split
abbrev pub IsLineOf : ℕ → CertLine → Type 0
IsLineOf n (CameraLine seen_from) = Unit {0}
IsLineOf n (LeafLine leaf) = IsAddress n leaf
IsLineOf n (ReasonLine reason) = IsSplittable n reason.triangle

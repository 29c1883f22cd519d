-- The lines of the report. This project's own; each ends with one LF (10).
-- Words: blocked_text, marks_text, frame_line, strip_line, least_line, mesh_line, measure_line, fit_line,
-- all_triangles, worst_in, count_blocked, sums_line, try_line, info_line, grid_fault_text, grid_refusal,
-- script_fault_text, line_refusal, certified_line, reject_text, rejection, certified_fit_line, fit_reject_text,
-- fit_rejection.
use Rattle.std.specs.Prelude.{ℕ, ◌^◌, max, is_some, List, [], ◌∷◌, ◌++◌, length, map, sum_by, count_by, Option, Some}
use Rattle.std.specs.Prelude.{None, codes, decimal}
use Rattle.mesh_defs.specs.declared.mark.Mark.TheVariants.{Inside, Cut, Outside}
use Rattle.mesh_defs.specs.HeightField.{HeightField, side_of}
use Rattle.mesh_defs.specs.View.{ViewPlane}
use Rattle.mesh_defs.specs.Thickness.{thickness_of}
use Rattle.mesh_defs.specs.BoundingBox.{CameraAt, least, greatest}
use Rattle.mesh_defs.specs.MeshText.{vertices_of}
use Rattle.mesh_defs.specs.State.{State}
use Rattle.pgm_grid.specs.declared.fault.PgmFault.{PgmFault}
use Rattle.pgm_grid.specs.declared.fault.PgmFault.TheVariants.{BadMagic, BadHeader, HeaderTooLong, BadMaxval, NotSquare}
use Rattle.pgm_grid.specs.declared.fault.PgmFault.TheVariants.{BadSide, Truncated, BadSample, AboveMaxval, Trailing}
use Rattle.pgm_grid.specs.declared.fault.PgmFault.TheVariants.{NoMemory, TooLong}
use Rattle.bintree_addr.specs.declared.blocked.Blocked.{Blocked}
use Rattle.roam_script.specs.declared.script_fault.ScriptFault.{ScriptFault}
use Rattle.roam_script.specs.declared.script_fault.ScriptFault.TheVariants.{LineTooLong, UnknownCommand, WrongFields}
use Rattle.roam_script.specs.declared.script_fault.ScriptFault.TheVariants.{BadNumber, OutOfRange, TooManyLines}
use Rattle.roam_script.specs.declared.script_fault.ScriptFault.TheVariants.{TooManyFrames, TooManyPlanes}
use Rattle.certificate_laws.specs.declared.reason.Reject.{Reject}
use Rattle.certificate_laws.specs.declared.reason.Reject.TheVariants.{BadLine, NotConforming, OverBudget, BadReason}
use Rattle.certificate_laws.specs.declared.reason.Reject.TheVariants.{TooFewReasons, MeshDiffers}
use Rattle.certificate_laws.specs.declared.fit_reason.FitReject as fits
use Rattle.certificate_laws.specs.declared.fit_reason.FitReject.TheVariants as fit_reject
use Rattle.roam_num.specs.Places.{exact_decimal}
use Rattle.cert_text.specs.CertText.{number_text}
use Rattle.run_laws.specs.Walk.{Refusal}
use Rattle.run_words.specs.Words.{Criterion, OfBudget, OfTolerance, TriangleOrder, DepthFirst, AlongStrip}
use Rattle.fit_laws.specs.PlaneHeight.{deviation_of, thickest_of}
use Rattle.run_laws.specs.Picture.{Picture, triangles_of, strip_triangles, mark_count}
use Rattle.run_laws.specs.Turns.{left_turns, right_turns}

-- `none`; or `A needs L`: the address of the triangle that blocks, and the number of triangles that it needs
abbrev pub blocked_text : Option Blocked → List ℕ
blocked_text None = codes "none"
blocked_text (Some blocked) = decimal blocked.tri ++ codes " needs " ++ decimal blocked.need

-- ` inside I cut C outside O`: how many triangles have each mark, where a plane is in force
abbrev pub marks_text : State → List ViewPlane → List ℕ → List ℕ
marks_text state [] triangles = []
marks_text state (_ ∷ _) triangles =
    codes " inside " ++ decimal (mark_count state Inside triangles) ++ codes " cut "
    ++ decimal (mark_count state Cut triangles)
    ++ codes " outside " ++ decimal (mark_count state Outside triangles)

-- `frame K triangles T vertices V worst W splits S merges G blocked B`, and the marks
abbrev pub frame_line : ℕ → Picture → List ℕ
frame_line number picture =
    let triangles : List ℕ = triangles_of picture in
    codes "frame " ++ decimal number ++ codes " triangles " ++ decimal (length triangles)
    ++ codes " vertices " ++ decimal (length (vertices_of picture.state.grid.n triangles)) ++ codes " worst "
    ++ decimal picture.worst
    ++ codes " splits " ++ decimal picture.splits ++ codes " merges " ++ decimal picture.merges
    ++ codes " blocked " ++ blocked_text picture.blocked
    ++ marks_text picture.state picture.state.view.planes triangles ++ codes "\n"

-- `strip K triangles T left A right B`: how many triangles the strip has, and how many turns to either side
abbrev pub strip_line : ℕ → Picture → List ℕ
strip_line number picture =
    let order : List ℕ = strip_triangles picture in
    codes "strip " ++ decimal number ++ codes " triangles " ++ decimal (length order)
    ++ codes " left " ++ decimal (left_turns picture.state.grid.n order) ++ codes " right "
    ++ decimal (right_turns picture.state.grid.n order)
    ++ codes "\n"

-- `frame K least T vertices V worst W`
abbrev pub least_line : ℕ → Picture → List ℕ
least_line number picture =
    let triangles : List ℕ = triangles_of picture in
    codes "frame " ++ decimal number ++ codes " least " ++ decimal (length triangles)
    ++ codes " vertices " ++ decimal (length (vertices_of picture.state.grid.n triangles)) ++ codes " worst "
    ++ decimal picture.worst ++ codes "\n"

-- the line behind a mesh whose triangles are in this order: along a strip it tells of the strip, whatever mesh it is of
abbrev pub mesh_line : TriangleOrder → Criterion → ℕ → Picture → List ℕ
mesh_line DepthFirst OfBudget number picture = frame_line number picture
mesh_line DepthFirst (OfTolerance tolerance) number picture = least_line number picture
mesh_line AlongStrip criterion number picture = strip_line number picture

-- `measure K deviation N over M thickness E`: N over M is how far the surface is from the mesh at a grid point at most,
-- in units of height, where M is 2^n; E is the greatest thickness of a triangle, in half units of height. The fraction
-- is not reduced.
abbrev pub measure_line : ℕ → Picture → List ℕ
measure_line number picture =
    let triangles : List ℕ = triangles_of picture in
    let n : ℕ = picture.state.grid.n in
    codes "measure " ++ decimal number ++ codes " deviation "
    ++ decimal (deviation_of n picture.state.grid.heights triangles)
    ++ codes " over " ++ decimal (2 ^ n) ++ codes " thickness "
    ++ decimal (thickest_of n picture.state.grid.heights triangles) ++ codes "\n"

-- `fit triangles T vertices V deviation N over M error D`: how many triangles and vertices a mesh has; N over M is how
-- far the surface is from it at a grid point at most, in units of height, as of `measure`; and D is the same number as
-- a decimal
abbrev pub fit_line : HeightField → List ℕ → List ℕ
fit_line grid triangles =
    let far : ℕ = deviation_of grid.n grid.heights triangles in
    codes "fit triangles " ++ decimal (length triangles) ++ codes " vertices "
    ++ decimal (length (vertices_of grid.n triangles))
    ++ codes " deviation " ++ decimal far ++ codes " over " ++ decimal (2 ^ grid.n) ++ codes " error "
    ++ exact_decimal far grid.n ++ codes "\n"

-- how many triangles the meshes of pictures have, all together
abbrev pub all_triangles : List Picture → ℕ
all_triangles pictures = sum_by (λ p. length (triangles_of p)) pictures

-- the greatest worst of pictures, or 0 where there is none
abbrev pub worst_in : List Picture → ℕ
worst_in pictures = greatest (map (λ (p : Picture). p.worst) pictures)

-- how many pictures tell of a triangle that blocks
abbrev pub count_blocked : List Picture → ℕ
count_blocked pictures = count_by (λ (p : Picture). is_some p.blocked) pictures

-- `try N SEED frames F triangles T worst W blocked B`, from these numbers
abbrev pub sums_line : (n seed frames triangles worst blocked : ℕ) → List ℕ
sums_line n seed frames triangles worst blocked =
    codes "try " ++ decimal n ++ codes " " ++ decimal seed ++ codes " frames " ++ decimal frames
    ++ codes " triangles " ++ decimal triangles ++ codes " worst " ++ decimal worst ++ codes " blocked "
    ++ decimal blocked ++ codes "\n"

-- the same of pictures: how many there are, and what they sum up to
abbrev pub try_line : ℕ → ℕ → List Picture → List ℕ
try_line n seed pictures =
    sums_line n seed (length pictures) (all_triangles pictures) (worst_in pictures) (count_blocked pictures)

-- `side W maxval M low L high H thickness E`: the points of a side, the bound of the heights, the least and
-- the greatest height, and the greater thickness of the two base triangles, in half units of height
abbrev pub info_line : HeightField → List ℕ
info_line grid =
    codes "side " ++ decimal (side_of grid.n) ++ codes " maxval " ++ decimal grid.maxval
    ++ codes " low " ++ decimal (least grid.heights) ++ codes " high " ++ decimal (greatest grid.heights)
    ++ codes " thickness " ++ decimal (max (thickness_of grid.n grid.heights 2) (thickness_of grid.n grid.heights 3))
    ++ codes "\n"

-- why a grid is refused
-- (no run tells of memory here: it ends with NoMemory, and writes nothing)
abbrev pub grid_fault_text : PgmFault → List ℕ
grid_fault_text BadMagic = codes "bad magic"
grid_fault_text (BadHeader place) = codes "bad header at " ++ decimal place
grid_fault_text HeaderTooLong = codes "header too long"
grid_fault_text BadMaxval = codes "bad maxval"
grid_fault_text NotSquare = codes "not square"
grid_fault_text BadSide = codes "bad side"
grid_fault_text Truncated = codes "truncated"
grid_fault_text (BadSample place) = codes "bad sample at " ++ decimal place
grid_fault_text (AboveMaxval index) = codes "above maxval at sample " ++ decimal index
grid_fault_text (Trailing place) = codes "trailing byte at " ++ decimal place
grid_fault_text NoMemory = codes "out of memory"
grid_fault_text TooLong = codes "file too long"

-- `grid refused: TEXT`
abbrev pub grid_refusal : PgmFault → List ℕ
grid_refusal fault = codes "grid refused: " ++ grid_fault_text fault ++ codes "\n"

-- why a line of a script is refused
abbrev pub script_fault_text : ScriptFault → List ℕ
script_fault_text LineTooLong = codes "line too long"
script_fault_text UnknownCommand = codes "unknown command"
script_fault_text WrongFields = codes "wrong fields"
script_fault_text (BadNumber field) = codes "bad number in field " ++ decimal field
script_fault_text (OutOfRange field) = codes "out of range in field " ++ decimal field
script_fault_text TooManyLines = codes "too many lines"
script_fault_text TooManyFrames = codes "too many frames"
script_fault_text TooManyPlanes = codes "too many planes"

-- `line N refused: TEXT`, lines counted from 1
abbrev pub line_refusal : Refusal → List ℕ
line_refusal refusal =
    codes "line " ++ decimal refusal.line ++ codes " refused: " ++ script_fault_text refusal.fault ++ codes "\n"

-- `certified camera X Y Z triangles T worst W`: where the mesh was seen from, how many triangles it has, and their
-- worst
abbrev pub certified_line : CameraAt → ℕ → ℕ → List ℕ
certified_line place triangles worst =
    codes "certified camera" ++ number_text place.x ++ number_text place.y ++ number_text place.z
    ++ codes " triangles " ++ decimal triangles ++ codes " worst " ++ decimal worst ++ codes "\n"

-- which test of a check failed first; lines and reasons are counted from 1, bytes from 0
abbrev pub reject_text : Reject → List ℕ
reject_text (BadLine line) = codes "bad line " ++ decimal line
reject_text NotConforming = codes "not conforming"
reject_text OverBudget = codes "over budget"
reject_text (BadReason index) = codes "bad reason " ++ decimal index
reject_text TooFewReasons = codes "too few reasons"
reject_text (MeshDiffers place) = codes "mesh differs at " ++ decimal place

-- `rejected: TEXT`
abbrev pub rejection : Reject → List ℕ
rejection why = codes "rejected: " ++ reject_text why ++ codes "\n"

-- `certified fit triangles T deviation K over M error D`: how many triangles a fitted mesh has, and how far the surface
-- is from it, as in the line of `fit`
abbrev pub certified_fit_line : ℕ → ℕ → ℕ → List ℕ
certified_fit_line n triangles deviation =
    codes "certified fit triangles " ++ decimal triangles ++ codes " deviation " ++ decimal deviation
    ++ codes " over " ++ decimal (2 ^ n)
    ++ codes " error " ++ exact_decimal deviation n ++ codes "\n"

-- which test of a certificate of a fitted mesh failed first; reasons are counted from 1
abbrev pub fit_reject_text : fits.FitReject → List ℕ
fit_reject_text fit_reject.OtherTolerance = codes "other tolerance"
fit_reject_text (fit_reject.BadReason index) = codes "bad reason " ++ decimal index
fit_reject_text fit_reject.OverTolerance = codes "over tolerance"
fit_reject_text fit_reject.OverBudget = codes "over budget"
fit_reject_text fit_reject.TooFewReasons = codes "too few reasons"

abbrev pub fit_rejection : fits.FitReject → List ℕ
fit_rejection why = codes "rejected: " ++ fit_reject_text why ++ codes "\n"

-- What small texts of certificates are read as, and what some words are, worked by hand from the format.
-- Words: origin, wanted, base_certificate, off_middle, halves_certificate, middle_certificate, and an example a word.
use Rattle.std.specs.Prelude.{◌≡◌, ℕ, List, [], ◌∷◌, ◌++◌, replicate, Some, None, Result, Ok, Err, codes, pos, neg_ℤ}
use Rattle.mesh_defs.specs.BoundingBox.{CameraAt}
use Rattle.certificate_laws.specs.declared.reason.Reason.{Reason}
use Rattle.certificate_laws.specs.declared.reason.Kind.TheVariants.{Want, Mate}
use Rattle.cert_text.specs.Certificate.{Certificate}
use Rattle.certificate_laws.specs.declared.fit_reason.Witness.{Witness}
use Rattle.certificate_laws.specs.FitCertificate.{FitCertificate}
use Rattle.certificate_laws.specs.Keeping.{KeptCertificate}
use Rattle.run_words.specs.Words.{Make, Check, AtError, InBudget, MakeFit, CheckFit, MakeKept, CheckKept, OnGrid}
use Rattle.run_words.specs.Words.{command_of}
use Rattle.run_laws.specs.CertFile.{cert_in, fit_cert_in, kept_cert_in}

abbrev pub origin : CameraAt
origin = record { x = pos 0; y = pos 0; z = pos 0 }

abbrev pub wanted : ℕ → Reason
wanted a = record { kind = Want; triangle = a }

-- the two base triangles, seen from the origin
abbrev pub base_certificate : List Reason → Result Certificate ℕ
base_certificate why = Ok (record { camera = origin; leaves = 2 ∷ (3 ∷ []); reasons = why })

-- with and without an LF at the end, with CRs, blanks and TABs, and with more reasons
abbrev pub CertificatesAreRead : Type 0
CertificatesAreRead =
    (cert_in 1 (codes "camera 0 0 0\nleaf 2\nleaf 3\nwant 2") ≡ base_certificate (wanted 2 ∷ []))
    × (cert_in 1 (codes "camera 0 0 0\r\n leaf\t2\r\nleaf 3\r\nwant 2\r\n") ≡ base_certificate (wanted 2 ∷ []))
    × (cert_in 1 (codes "camera 0 0 0\nleaf 2\nleaf 3\nwant 2\nmate 3\n")
    ≡ base_certificate (wanted 2 ∷ ((record { kind = Mate; triangle = 3 }) ∷ [])))
    × (cert_in 1 (codes "camera 0 0 0\nleaf 2\nleaf 3\n") ≡ base_certificate [])

-- no line at all, no camera, a second one, a blank line, a comment, a leaf behind a reason, a leaf and a reason that
-- are too fine, and 201 bytes
abbrev pub CertificatesAreRefused : Type 0
CertificatesAreRefused =
    (cert_in 1 [] ≡ Err 1) × (cert_in 1 (codes "leaf 2\n") ≡ Err 1)
    × (cert_in 1 (codes "camera 0 0 0\ncamera 0 0 0\n") ≡ Err 2)
    × (cert_in 1 (codes "camera 0 0 0\n\nleaf 2\n") ≡ Err 2)
    × (cert_in 1 (codes "camera 0 0 0\n# two\nleaf 2\n") ≡ Err 2)
    × (cert_in 1 (codes "camera 0 0 0\nwant 2\nleaf 2") ≡ Err 3)
    × (cert_in 1 (codes "camera 0 0 0\nleaf 16\nleaf 2\n") ≡ Err 2)
    × (cert_in 1 (codes "camera 0 0 0\nwant 8\n") ≡ Err 2)
    × (cert_in 1 (codes "camera 0 0 0\nleaf 2\nleaf 3" ++ replicate 195 32) ≡ Err 3)

-- a camera at most 2 ^ 30 from the origin on each axis, and no budget below 2
abbrev pub WordsOfCertify : Type 0
WordsOfCertify =
    (command_of (codes "certify" ∷ (codes "make"
    ∷ (codes "g" ∷ (codes "-1073741824" ∷ (codes "0" ∷ (codes "07" ∷ (codes "2" ∷ (codes "1024" ∷ []))))))))
    ≡ Some (OnGrid (codes "g") (Make (record {
      camera = record { x = neg_ℤ (pos 1073741824); y = pos 0; z = pos 7 };
      budget = 2;
      spacing = 1024;
    }))))
    × (command_of (codes "certify" ∷ (codes "make"
    ∷ (codes "g" ∷ (codes "1073741825" ∷ (codes "0" ∷ (codes "0" ∷ (codes "2" ∷ (codes "1" ∷ [])))))))) ≡ None)
    × (command_of
    (codes "certify" ∷ (codes "check" ∷ (codes "g" ∷ (codes "m" ∷ (codes "c" ∷ (codes "2" ∷ (codes "1" ∷ [])))))))
    ≡ Some (OnGrid (codes "g") (Check (record { mesh = codes "m"; certificate = codes "c"; budget = 2; spacing = 1 }))))
    × (command_of (codes "certify"
    ∷ (codes "check" ∷ (codes "g" ∷ (codes "m" ∷ (codes "c" ∷ (codes "1" ∷ (codes "1" ∷ []))))))) ≡ None)
    × (command_of (codes "certify"
    ∷ (codes "look" ∷ (codes "g" ∷ (codes "m" ∷ (codes "c" ∷ (codes "2" ∷ (codes "1" ∷ []))))))) ≡ None)

-- the lower half, off in the middle of nine points
abbrev pub off_middle : Witness
off_middle = record { triangle = 2; x = 1; y = 1 }

-- the two base triangles, with this tolerance and these reasons behind them
abbrev pub halves_certificate : ℕ → List Witness → Result FitCertificate ℕ
halves_certificate own why = Ok (record { tolerance = own; needed = []; beyond = why })

-- with and without an LF at the end, with CRs, blanks and TABs, and without a reason
abbrev pub FitCertificatesAreRead : Type 0
FitCertificatesAreRead =
    (fit_cert_in 1 (codes "tolerance 20\nmesh\noff 2 1 1") ≡ halves_certificate 20 (off_middle ∷ []))
    × (fit_cert_in 1 (codes "tolerance\t20 \r\n mesh\r\noff 2  1\t1\r\n") ≡ halves_certificate 20 (off_middle ∷ []))
    × (fit_cert_in 1 (codes "tolerance 20\nmesh\n") ≡ halves_certificate 20 [])

-- no line at all, no tolerance, a second one, a blank line, a reason before the tolerance, no line of the mesh, a
-- second one, a triangle that may not be split, and a column past the grid
abbrev pub FitCertificatesAreRefused : Type 0
FitCertificatesAreRefused =
    (fit_cert_in 1 [] ≡ Err 1) × (fit_cert_in 1 (codes "mesh\n") ≡ Err 1)
    × (fit_cert_in 1 (codes "tolerance 20\ntolerance 20\n") ≡ Err 2)
    × (fit_cert_in 1 (codes "tolerance 20\n\nmesh\n") ≡ Err 2)
    × (fit_cert_in 1 (codes "off 2 1 1\ntolerance 20\nmesh\n") ≡ Err 1)
    × (fit_cert_in 1 (codes "tolerance 20\noff 2 1 1\n") ≡ Err 3)
    × (fit_cert_in 1 (codes "tolerance 20\nmesh\nmesh\n") ≡ Err 3)
    × (fit_cert_in 1 (codes "tolerance 20\nmesh\noff 8 1 1\n") ≡ Err 3)
    × (fit_cert_in 1 (codes "tolerance 20\nmesh\noff 2 3 1\n") ≡ Err 3)

-- the two base triangles for a tolerance of 20, split at the middle that is kept
abbrev pub middle_certificate : Result KeptCertificate ℕ
middle_certificate = Ok (record {
  needs = (record { x = 1; y = 1 }) ∷ [];
  rest = record { tolerance = 20; needed = []; beyond = [] };
})

-- with a point, and with blanks and TABs; and without one
abbrev pub KeptCertificatesAreRead : Type 0
KeptCertificatesAreRead =
    (kept_cert_in 1 (codes "need 1 1\ntolerance 20\nmesh\n") ≡ middle_certificate)
    × (kept_cert_in 1 (codes " need\t1  1 \r\ntolerance 20\r\nmesh") ≡ middle_certificate)
    × (kept_cert_in 1 (codes "tolerance 20\nmesh\n")
    ≡ Ok (record { needs = []; rest = record { tolerance = 20; needed = []; beyond = [] } }))

-- no line at all, a point alone, one behind the tolerance, one past the grid, and one without its row; a certificate
-- without points refuses one
abbrev pub KeptCertificatesAreRefused : Type 0
KeptCertificatesAreRefused =
    (kept_cert_in 1 [] ≡ Err 1) × (kept_cert_in 1 (codes "need 1 1\n") ≡ Err 2)
    × (kept_cert_in 1 (codes "tolerance 20\nneed 1 1\nmesh\n") ≡ Err 2)
    × (kept_cert_in 1 (codes "need 3 1\ntolerance 20\nmesh\n") ≡ Err 1)
    × (kept_cert_in 1 (codes "need 1\ntolerance 20\nmesh\n") ≡ Err 1)
    × (fit_cert_in 1 (codes "need 1 1\ntolerance 20\nmesh\n") ≡ Err 1)

-- an error with a point, a budget, and words that are none
abbrev pub WordsOfCertifyFit : Type 0
WordsOfCertifyFit =
    (command_of
    (codes "certify" ∷ (codes "make-fit" ∷ (codes "g" ∷ (codes "error" ∷ (codes "2.5" ∷ (codes "1" ∷ []))))))
    ≡ Some (OnGrid (codes "g") (MakeFit (record { goal = AtError 2500; spacing = 1 }))))
    × (command_of (codes "certify" ∷ (codes "check-fit"
    ∷ (codes "g" ∷ (codes "m" ∷ (codes "c" ∷ (codes "budget" ∷ (codes "2" ∷ (codes "1024" ∷ []))))))))
    ≡ Some (OnGrid (codes "g") (CheckFit (record {
      mesh = codes "m";
      certificate = codes "c";
      goal = InBudget 2;
      spacing = 1024;
    }))))
    × (command_of
    (codes "certify" ∷ (codes "make-fit" ∷ (codes "g" ∷ (codes "budget" ∷ (codes "1" ∷ (codes "1" ∷ [])))))) ≡ None)
    × (command_of (codes "certify" ∷ (codes "check-fit"
    ∷ (codes "g" ∷ (codes "m" ∷ (codes "c" ∷ (codes "error" ∷ (codes "65536" ∷ (codes "1" ∷ [])))))))) ≡ None)
    × (command_of (codes "certify"
    ∷ (codes "check-fit" ∷ (codes "g" ∷ (codes "m" ∷ (codes "c" ∷ (codes "2" ∷ (codes "1" ∷ []))))))) ≡ None)

-- a certificate of a mesh that keeps points is made and checked for an error alone, and `keep` names one file
abbrev pub WordsOfCertifyKept : Type 0
WordsOfCertifyKept =
    (command_of (codes "certify" ∷ (codes "make-fit"
    ∷ (codes "g" ∷ (codes "error" ∷ (codes "2.5" ∷ (codes "1" ∷ (codes "keep" ∷ (codes "p" ∷ []))))))))
    ≡ Some (OnGrid (codes "g") (MakeKept (record { thousandths = 2500; spacing = 1; points = codes "p" }))))
    × (command_of (codes "certify" ∷ (codes "check-fit" ∷ (codes "g" ∷ (codes "m" ∷ (codes "c"
    ∷ (codes "error" ∷ (codes "2.5" ∷ (codes "1" ∷ (codes "keep" ∷ (codes "p" ∷ []))))))))))
    ≡ Some (OnGrid (codes "g") (CheckKept (record {
      mesh = codes "m";
      certificate = codes "c";
      thousandths = 2500;
      spacing = 1;
      points = codes "p";
    }))))
    × (command_of (codes "certify" ∷ (codes "make-fit"
    ∷ (codes "g" ∷ (codes "budget" ∷ (codes "2" ∷ (codes "1" ∷ (codes "keep" ∷ (codes "p" ∷ [])))))))) ≡ None)
    × (command_of (codes "certify" ∷ (codes "check-fit" ∷ (codes "g" ∷ (codes "m" ∷ (codes "c"
    ∷ (codes "error" ∷ (codes "2.5" ∷ (codes "1" ∷ (codes "keep" ∷ []))))))))) ≡ None)
    × (command_of (codes "certify" ∷ (codes "check-fit" ∷ (codes "g" ∷ (codes "m" ∷ (codes "c"
    ∷ (codes "error" ∷ (codes "2.5" ∷ (codes "1" ∷ (codes "hold" ∷ (codes "p" ∷ [])))))))))) ≡ None)

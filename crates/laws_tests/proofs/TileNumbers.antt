-- Worked numbers of tiles. They were made by geometry alone, from the corners of triangles and from points that are
-- moved and mirrored, by a program that shares nothing with the definitions; the check computes each of them here.
use Rattle.std.proofs.Common.{ℕ, Bool, ◌&&◌, nat_eq, IsTrue, refl}
use Rattle.mesh_defs.specs.Triangle.{level_of}
use Rattle.mesh_defs.specs.BoundingBox.{point}
use Rattle.mosaic_laws.specs.Tile.{quarter, in_tile}
use Rattle.mosaic_laws.specs.Glue.{tile_of, local_of}
use Rattle.mosaic_laws.specs.Mirror.{mirrored}

-- the quarter k of the tile in this column and row has this address, in a grid of 2 ^ p columns and rows of tiles
abbrev is_quarter : ℕ → ℕ → ℕ → ℕ → ℕ → Bool
is_quarter p column row k x = nat_eq (quarter p column row k) x

-- triangle a of the tile is x in the large grid, and the tile and the address of x are these
abbrev is_in_tile : ℕ → ℕ → ℕ → ℕ → ℕ → Bool
is_in_tile p column row a x =
    nat_eq (in_tile p (point column row) a) x && nat_eq (tile_of p x).x column && nat_eq (tile_of p x).y row
    && nat_eq (local_of p x) a

-- the mirror image of a is c: left and right exchanged at 0, up and down at 1
abbrev is_image : ℕ → ℕ → ℕ → Bool
is_image which a c = nat_eq (mirrored which a) c

-- the quarters of the tiles of two columns and two rows
quarters_of_four_tiles :
    IsTrue (is_quarter 1 0 0 0 17 && is_quarter 1 0 0 1 22 && is_quarter 1 0 0 2 23 && is_quarter 1 0 0 3 16
    && is_quarter 1 0 1 0 20 && is_quarter 1 0 1 1 21 && is_quarter 1 0 1 2 26 && is_quarter 1 0 1 3 27
    && is_quarter 1 1 0 0 18 && is_quarter 1 1 0 1 19 && is_quarter 1 1 0 2 28 && is_quarter 1 1 0 3 29
    && is_quarter 1 1 1 0 31 && is_quarter 1 1 1 1 24 && is_quarter 1 1 1 2 25 && is_quarter 1 1 1 3 30)
quarters_of_four_tiles = refl

-- quarters of tiles of four and of eight columns and rows
quarters_of_more_tiles :
    IsTrue (is_quarter 2 0 0 1 90 && is_quarter 2 0 1 0 88 && is_quarter 2 0 2 3 80 && is_quarter 2 0 3 1 85
    && is_quarter 2 0 3 2 106 && is_quarter 2 0 3 3 107 && is_quarter 2 2 0 0 73 && is_quarter 2 3 0 0 74
    && is_quarter 2 3 1 0 119 && is_quarter 2 3 3 0 123 && is_quarter 3 0 1 0 360 && is_quarter 3 1 2 3 381
    && is_quarter 3 1 3 2 377 && is_quarter 3 1 4 0 326 && is_quarter 3 1 4 1 327 && is_quarter 3 1 5 1 348
    && is_quarter 3 1 5 2 349 && is_quarter 3 1 5 3 322 && is_quarter 3 2 0 2 287 && is_quarter 3 2 2 0 269
    && is_quarter 3 3 0 2 260 && is_quarter 3 3 4 0 330 && is_quarter 3 4 0 2 315 && is_quarter 3 4 0 3 292
    && is_quarter 3 4 1 3 319 && is_quarter 3 4 6 0 385 && is_quarter 3 4 7 1 389 && is_quarter 3 5 0 0 294
    && is_quarter 3 5 1 0 291 && is_quarter 3 5 1 2 317 && is_quarter 3 5 2 3 461 && is_quarter 3 5 4 1 503
    && is_quarter 3 5 6 1 387 && is_quarter 3 5 7 1 408 && is_quarter 3 6 3 2 454 && is_quarter 3 6 5 1 509
    && is_quarter 3 6 6 3 492 && is_quarter 3 7 0 3 469 && is_quarter 3 7 3 2 453 && is_quarter 3 7 5 3 486)
quarters_of_more_tiles = refl

-- triangles of tiles, there and back
triangles_of_tiles :
    IsTrue (is_in_tile 1 1 1 16 124 && is_in_tile 2 0 0 26 366 && is_in_tile 2 0 1 10 178 && is_in_tile 2 0 2 28 320
    && is_in_tile 2 2 0 44 628 && is_in_tile 2 2 2 43 787 && is_in_tile 2 2 3 52 820 && is_in_tile 2 3 1 46 902
    && is_in_tile 3 0 3 61 3037 && is_in_tile 3 0 5 25 1401 && is_in_tile 3 0 7 18 1362 && is_in_tile 3 0 7 51 3411
    && is_in_tile 3 1 7 36 3452 && is_in_tile 3 2 5 39 2663 && is_in_tile 3 2 6 29 1777 && is_in_tile 3 2 7 28 1692
    && is_in_tile 3 3 0 29 1045 && is_in_tile 3 3 1 15 525 && is_in_tile 3 3 4 45 2653 && is_in_tile 3 4 1 47 2511
    && is_in_tile 3 4 2 19 1223 && is_in_tile 3 4 2 53 2493 && is_in_tile 3 4 5 37 3141 && is_in_tile 3 4 5 38 3142
    && is_in_tile 3 4 7 15 823 && is_in_tile 3 5 0 42 2362 && is_in_tile 3 5 0 57 2313 && is_in_tile 3 5 1 49 2537
    && is_in_tile 3 5 4 19 2011 && is_in_tile 3 6 0 44 2420 && is_in_tile 3 6 2 22 1802 && is_in_tile 3 6 3 43 3595
    && is_in_tile 3 6 5 10 1018 && is_in_tile 3 6 5 22 2038 && is_in_tile 3 6 5 59 3867 && is_in_tile 3 6 6 23 1611
    && is_in_tile 3 6 6 29 1969 && is_in_tile 3 7 0 19 1195 && is_in_tile 3 7 4 23 2031 && is_in_tile 3 7 5 30 1946)
unfolding in_tile level_of
triangles_of_tiles = refl

-- mirror images
mirror_images :
    IsTrue (is_image 0 6 6 && is_image 0 10 15 && is_image 0 90 117 && is_image 0 91 116 && is_image 0 106 101
    && is_image 0 120 87 && is_image 0 122 85 && is_image 0 141 146 && is_image 0 180 235 && is_image 0 184 231
    && is_image 0 200 215 && is_image 0 205 210 && is_image 0 211 204 && is_image 0 239 176 && is_image 1 9 12
    && is_image 1 15 14 && is_image 1 28 31 && is_image 1 32 55 && is_image 1 47 40 && is_image 1 48 39
    && is_image 1 55 32 && is_image 1 63 56 && is_image 1 66 109 && is_image 1 83 92 && is_image 1 89 86
    && is_image 1 112 127 && is_image 1 125 114 && is_image 1 146 205 && is_image 1 153 198 && is_image 1 172 179
    && is_image 1 185 166 && is_image 1 186 165 && is_image 1 190 161 && is_image 1 192 159 && is_image 1 217 134
    && is_image 1 223 128 && is_image 1 239 240 && is_image 1 242 237 && is_image 1 254 225 && is_image 1 255 224)
unfolding mirrored level_of
mirror_images = refl

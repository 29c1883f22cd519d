use Rattle.mesh_arrays.proofs.patch.+patch_under.Given as goal

abbrev pub decreases-patch_under : goal.decreases-patch_under
decreases-patch_under l = l.levels

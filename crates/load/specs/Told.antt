-- The number and the values of each fault of loading.
use Rattle.std.specs.Prelude.{ℕ, cond, List, [], ◌∷◌, Some, None, Option, ◌==◌}
use Rattle.records.specs.Faults as faults
use Rattle.plans.specs.Refusals as refusals
use Rattle.load.specs.declared.fault.LoadFault.{LoadFault}
use Rattle.load.specs.declared.fault.LoadFault.TheVariants.{Reading, Planning, Closing}
use Rattle.load.specs.Closures.{told_closure}

-- a plan's refusal as the file's: 45, at byte 0, with the lower number; want of memory stays what it is
abbrev pub told_plan : ℕ × List ℕ → ℕ × List ℕ
told_plan t = cond (t.0 == 0) (0, []) (45, 0 ∷ t.0 ∷ [])

-- the number and the values of each fault
abbrev pub told_load : LoadFault → ℕ × List ℕ
told_load (Reading f) = faults.told f
told_load (Planning r) = told_plan (refusals.told r)
told_load (Closing b f) = (45, b ∷ told_closure f ∷ [])

-- a lower number among the values, where there is one
abbrev pub lower_list : Option ℕ → List ℕ
lower_list None = []
lower_list (Some l) = l ∷ []

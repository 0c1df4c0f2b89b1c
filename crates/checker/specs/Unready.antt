-- What a refusal to begin is called by the check and by the findings.
use Rattle.checker.specs.declared.refusal.CheckRefusal.{CheckRefusal}
use Rattle.checker.specs.declared.refusal.FindingsRefusal.{FindingsRefusal}
use Rattle.checker.specs.declared.refusal.Unready.{Unready}
use Rattle.checker.specs.declared.refusal.CheckRefusal.TheVariants as C
use Rattle.checker.specs.declared.refusal.FindingsRefusal.TheVariants as F
use Rattle.checker.specs.declared.refusal.Unready.TheVariants.{OutOfRange, ShortScratch}

abbrev pub check_unready : Unready → CheckRefusal
check_unready OutOfRange = C.OutOfRange
check_unready ShortScratch = C.ShortScratch

abbrev pub findings_unready : Unready → FindingsRefusal
findings_unready OutOfRange = F.OutOfRange
findings_unready ShortScratch = F.ShortScratch

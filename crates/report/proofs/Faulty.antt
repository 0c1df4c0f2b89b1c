-- The line on the fault of a file.
use Rattle.std.proofs.Common.{◌≡◌, ℕ, List, length, Ok, Err, vec_items, IfOk, MatchResult, Result, Vec, sym, ap, subst, arith}
use Rattle.std.proofs.lemmas.Result.{IfOk-weaker}
use Rattle.std.specs.declared.alloc.AllocError.{AllocError}
use Rattle.std.specs.declared.alloc.Global.{Global}
use Rattle.load.specs.Loading.{LoadRefused}
use Rattle.load.specs.declared.loading.Loaded.{Loaded}
use Rattle.line.specs.declared.Line.{Line}
use Rattle.report.specs.declared.fault.ReportFault.{ReportFault}
use Rattle.report.specs.declared.fault.ReportFault.TheVariants.{Loading, Memory}
use Rattle.report.specs.Reports.{ToldBy, Untold, FaultLine, ReportedBy, plan, fault}

module _ (Lines : Loaded → List Line → Type 0) (file : List ℕ) where
  pub fault_reported : (f : ReportFault) (ls : List Line) → Untold file f → FaultLine f ls → ReportedBy Lines file ls
  fault_reported (Loading f) ls u l =
      subst (λ xs. ReportedBy Lines file xs) (sym l.4) (fault l.0 l.1 l.2 (subst (λ t. LoadRefused file t.0 t.1) l.3 u))
  fault_reported Memory ls u l = let z = ap (λ t. length t.1) l.3 in absurd (omega arith)

  -- the lines of the plan, or the one line of its fault
  pub reported : (lines : Result (Vec Line Global) ReportFault) (result : Result (Vec Line Global) AllocError) → MatchResult lines (λ v. ToldBy Lines file (vec_items v)) (Untold file)
      → MatchResult lines (λ v. result ≡ Ok v) (λ f. IfOk result (λ v. FaultLine f (vec_items v))) → IfOk result (λ v. ReportedBy Lines file (vec_items v))
  reported (Ok v) result told same =
      subst (λ r. IfOk r (λ w. ReportedBy Lines file (vec_items w))) (sym same) (plan told.0 (vec_items v) told.1 told.2)
  reported (Err f) result untold line =
      IfOk-weaker result (λ v. FaultLine f (vec_items v)) (λ v. ReportedBy Lines file (vec_items v)) (λ v l. fault_reported f (vec_items v) untold l) line

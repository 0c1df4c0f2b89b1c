-- A run of a station by which a plan is judged, and what its answers say.
use Rattle.std.specs.Prelude.{◌≡◌, ℕ, ◌*◌, cond, List, [], ◌∷◌, ◌++◌, map, length, vec_items, Vec, ◌==◌}
use Rattle.std.specs.declared.alloc.Global.{Global}
use Rattle.records.specs.declared.kinds.Closure.{Closure}
use Rattle.timetable.specs.Meaning.{Meaning}
use Rattle.station.specs.declared.call.Call.TheVariants.{Close, Check, Findings, Survey}
use Rattle.station.specs.States.{Told, slip, reopened, passes, found, surveyed, goes_on_air, ticked, withdrawn, refused}
use Rattle.runs.specs.Rehearsals.{told_of, Rehearsed}
use Rattle.runs.specs.declared.rehearsal.Rehearsal.{Rehearsal}
use Rattle.runs.specs.declared.rehearsal.Script.{Script}
use Rattle.runs.specs.declared.rehearsal.Viewer.{Viewer}
use Rattle.judging.specs.Judgements.{miss}
use Rattle.line.specs.declared.Line.{Line}
use Rattle.line.specs.declared.Line.TheVariants as line

-- scratch with two cells for each of n pages
abbrev pub Cells : ℕ → Vec ℕ Global → Type 0
Cells n v = length (vec_items v) ≡ 2 * n

-- the calls that judge a film of n pages: each closure is booked, what is sent is checked, and then it is surveyed, or what starves is found
pub record Scripted (n : ℕ) (es : List Closure) (script : Script) : Type 0 where
  pub check_cells : Vec ℕ Global
  pub survey_cells : Vec ℕ Global
  pub finding_cells : Vec ℕ Global
  pub enough : Cells n check_cells × Cells n survey_cells × Cells n finding_cells
  pub opening : vec_items script.opening ≡ map Close es ++ Check check_cells ∷ []
  pub passed : vec_items script.passed ≡ Survey survey_cells ∷ []
  pub otherwise : vec_items script.otherwise ≡ Findings finding_cells n ∷ []

-- the line of a stray entry, of a starving page and of a long period, by the refusal's values
abbrev pub stray_line : List ℕ → List Line
stray_line [] = []
stray_line (s ∷ []) = []
stray_line (s ∷ (k ∷ [])) = []
stray_line (s ∷ (k ∷ (p ∷ rest))) = line.Stray s k p ∷ []

abbrev pub starved_line : List ℕ → List Line
starved_line [] = []
starved_line (i ∷ []) = []
starved_line (i ∷ (t ∷ rest)) = line.Starved i t ∷ []

abbrev pub refused_lines : ℕ × List ℕ → List Line
refused_lines t =
    cond (t.0 == 14) (stray_line t.1)
    (cond (t.0 == 15) (starved_line t.1)
    (cond (t.0 == 23) (line.LongStock ∷ []) []))

-- what an answer says
abbrev pub told_lines : Told → List Line
told_lines (slip mark e) = []
told_lines reopened = []
told_lines passes = line.Pass ∷ []
told_lines (found fs) = map miss fs
told_lines (surveyed p t) = line.Stock p t ∷ []
told_lines goes_on_air = []
told_lines (ticked c l) = []
told_lines withdrawn = []
told_lines (refused t) = refused_lines t

-- what some answers say
abbrev pub all_lines : List Told → List Line
all_lines [] = []
all_lines (a ∷ rest) = told_lines a ++ all_lines rest

-- the lines are those of such a run, over a timetable that means M
pub record Tells (M : Meaning) (m n : ℕ) (es : List Closure) (ls : List Line) : Type 0 where
  pub script : Script
  pub viewer : Viewer
  pub store : List ℕ
  pub store_after : List ℕ
  pub rehearsal : Rehearsal
  pub scripted : Scripted n es script
  pub rehearsed : Rehearsed M m n 0 script viewer store rehearsal store_after
  pub lines : ls ≡ all_lines (told_of (vec_items rehearsal.replies))

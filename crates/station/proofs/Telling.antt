-- What a station tells of its findings and of a survey.
use Rattle.std.proofs.Common.{◌≡◌, ℕ, ◌<◌, ◌≤◌, length, Ok, Err, sym, subst, ⊎_elim, arith}
use Rattle.std.proofs.lemmas.List.Sorted.{length_permutation}
use Rattle.bag.specs.Bags.{room, SameMemory}
use Rattle.bag.specs.declared.bag.Bag.{Bag}
use Rattle.bag.specs.declared.ranked.Ranked.{Ghosts}
use Rattle.bag.specs.declared.finding.Finding.{Finding}
use Rattle.bag.proofs.Memory.{held_within}
use Rattle.checker.specs.Findings.{Finds}
use Rattle.checker.specs.declared.refusal.FindingsRefusal.{FindingsRefusal}
use Rattle.checker.specs.declared.refusal.FindingsRefusal.TheVariants.{OutOfRange, ShortScratch, ShortBag}
use Rattle.survey.specs.Refusals as surveying
use Rattle.survey.specs.Surveys.{Surveys}
use Rattle.survey.specs.declared.refusal.SurveyRefusal.{SurveyRefusal}
use Rattle.station.specs.declared.phase.Phase.TheVariants.{Open}
use Rattle.station.specs.declared.refusal.Refusal.TheVariants as refusal
use Rattle.station.specs.States.{State, sent_by, FindingsOf, out_of_range, few_cells, short_bag, all_found, SurveyTold, short_scratch, long_period, peak, surveyed, refused}

module _ (s : State) (cells : ℕ) {o : Ghosts Finding} (a b : Bag Finding o) (same : SameMemory a b) where
  pub findings_told : (count : ℕ) → Finds (sent_by s) s.delay s.pages cells (Ok count) b → FindingsOf s cells (room a) (Ok count) b
  findings_told count h =
      let xs = h.2.findings in
      let fits : length xs ≤ room a = omega (arith, length_permutation _ _ h.2.gathered, held_within b, same.same_room) in
      (xs, all_found xs h.0 h.1 h.2.exact fits, h.2.gathered, h.2.counted)

  pub findings_refused : (e : FindingsRefusal) → Finds (sent_by s) s.delay s.pages cells (Err e) b → FindingsOf s cells (room a) (Err (refusal.Finding e)) b
  findings_refused OutOfRange h = (out_of_range h.0, h.1)
  findings_refused ShortScratch h = (few_cells h.0 h.1, h.2)
  findings_refused ShortBag h =
      (short_bag h.2.0 h.0 h.1 h.2.1 (subst (λ r. r < length h.2.0) same.same_room h.2.2), h.3)

module _ (s : State) (cells : ℕ) (passed : s.phase ≡ Open → ⊥) where
  pub survey_told : (p t : ℕ) → Surveys (sent_by s) s.delay s.pages cells (Ok (p, t)) → SurveyTold s cells (surveyed p t)
  survey_told p t h = peak p t passed h.0 h.1 h.2

  pub survey_refused : (e : SurveyRefusal) → Surveys (sent_by s) s.delay s.pages cells (Err e) → SurveyTold s cells (refused (surveying.told e))
  survey_refused e h = ⊎_elim
      (λ short. subst (λ t. SurveyTold s cells (refused t)) (sym short.0) (short_scratch passed short.1))
      (λ long. subst (λ t. SurveyTold s cells (refused t)) (sym long.0) (long_period passed long.1 long.2))
      h

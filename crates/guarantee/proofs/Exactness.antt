-- The check is exact: off air, in range and with enough scratch it refuses exactly where something is unsound.
use Rattle.std.proofs.Common.{◌≡◌, ℕ, ◌*◌, ◌≤◌, ◌⊎◌, List, Ok, Err, refl, inl, inr, ⊎_elim, arith}
use Rattle.timetable.specs.Meaning.{Meaning}
use Rattle.timetable.specs.Windows.{InRange, Sound, Stray, Starving}
use Rattle.checker.specs.Judged.{Judged, Verdict, out_of_range, short_scratch, stray, starving, passed}
use Rattle.station.specs.States.{State, passes, refused, sent_by, verdict_told}
use Rattle.guarantee.specs.Guarantee.{Refuses, Exact}

refused_not_passes : (t : ℕ × List ℕ) → passes ≡ refused t → ⊥
refused_not_passes t e = let z : ◌≡◌ {A = ℕ} 0 1 = cc in omega arith

module _ (X : Meaning) (m n cells : ℕ) (range : InRange X m n) (enough : 2 * n ≤ cells) where
  refuses_unsound : (v : Verdict) → Judged X m n cells v → Refuses (verdict_told v) → Stray X n ⊎ Starving X m n
  refuses_unsound _ (out_of_range off) h = absurd (off range)
  refuses_unsound _ (short_scratch _ few) h = absurd (omega arith)
  refuses_unsound _ (stray t k p _ _ first) h = inl (k, t, rw first.carries first.beyond)
  refuses_unsound _ (starving i t _ _ _ first) h = inr (i, t, first.here.page.0, first.here.page.1, first.here.starves)
  refuses_unsound _ (passed _ _ _) h = absurd (refused_not_passes h.0 h.1)

  unsound_refuses : (v : Verdict) → Judged X m n cells v → Stray X n ⊎ Starving X m n → Refuses (verdict_told v)
  unsound_refuses _ (out_of_range off) h = absurd (off range)
  unsound_refuses _ (short_scratch _ few) h = absurd (omega arith)
  unsound_refuses _ (stray t k p _ _ first) h = (_, refl)
  unsound_refuses _ (starving i t _ _ _ first) h = (_, refl)
  unsound_refuses _ (passed _ _ sound) h = absurd (⊎_elim sound.none_stray sound.none_starving h)

  -- so what is sound passes
  pub sound_passes : (v : Verdict) → Sound X m n → Judged X m n cells v → verdict_told v ≡ passes
  sound_passes (Ok _) sound h = refl
  sound_passes (Err t) sound h =
      absurd (⊎_elim sound.none_stray sound.none_starving (refuses_unsound (Err t) h (t, refl)))

pub exact : (s : State) → Exact s
exact s cells a s' off range enough h =
    let v = h.off_air off in
    let X = sent_by s in
    rw v.2 (
      refuses_unsound X s.delay s.pages cells range enough v.0 v.1,
      unsound_refuses X s.delay s.pages cells range enough v.0 v.1,
    )

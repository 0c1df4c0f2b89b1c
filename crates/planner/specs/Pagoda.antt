-- The pagoda plan of a delay m and the subchannel counts of some channels. A channel of s subchannels lends them its
-- slots in turn, so that each has every s-th slot; a subchannel carries some pages one after the other, over and over.
-- The pages 1, 2, 3 and so on are dealt to the channels in order, and on each channel to its subchannels in order.
use Rattle.std.specs.Prelude.{◌≡◌, ℕ, zero, suc, ◌+◌, ◌-◌, ◌*◌, ◌/◌, ◌%◌, ◌<◌, ◌≤◌, ◌⊎◌, List, [], ◌∷◌, ◌++◌, length, get_or, take, replicate}
use Rattle.records.specs.declared.kinds.Channel.{Channel}
use Rattle.timetable.specs.Meaning.{Meaning, Lawful, repeating, repeating_lawful}
use Rattle.timetable.specs.Windows.{window}
use Rattle.planner.specs.declared.subchannel.Subchannel.{Subchannel}

-- the subchannels of a channel, counted from 0; 0 past the last channel
abbrev pub count_at : List Channel → ℕ → ℕ
count_at cs k = (get_or cs k (record { subchannels = 0 })).subchannels

-- how many pages a subchannel gets that begins with page f: as many as come round within the window of f
abbrev pub share : ℕ → ℕ → ℕ → ℕ
share m s f = window m f / s

-- the page after those of a subchannel that begins with page f
abbrev pub after : ℕ → ℕ → ℕ → ℕ
after m s f = f + share m s f

-- the first page of subchannel j, counted from 0, of a channel that begins with page f
abbrev pub first_of : ℕ → ℕ → ℕ → ℕ → ℕ
first_of m s f zero = f
first_of m s f (suc j) = after m s (first_of m s f j)

-- how many pages it gets
abbrev pub share_of : ℕ → ℕ → ℕ → ℕ → ℕ
share_of m s f j = share m s (first_of m s f j)

-- the first page of channel k, counted from 0
abbrev pub begins : ℕ → List Channel → ℕ → ℕ
begins m cs zero = 1
begins m cs (suc k) = first_of m (count_at cs k) (begins m cs k) (count_at cs k)

-- the pages that the first k channels get, and those of the film
abbrev pub dealt : ℕ → List Channel → ℕ → ℕ
dealt m cs k = begins m cs k - 1

abbrev pub pagoda_pages : ℕ → List Channel → ℕ
pagoda_pages m cs = dealt m cs (length cs)

-- what subchannels of s carry in slot u, where f is the first page of the one whose slot it is
abbrev pub round : ℕ → ℕ → ℕ → ℕ → ℕ
round m s f u = f + u / s % share m s f

-- what channel k, counted from 1, carries in slot u
abbrev pub pagoda_page : ℕ → List Channel → ℕ → ℕ → ℕ
pagoda_page m cs k u =
    round m (count_at cs (k - 1)) (first_of m (count_at cs (k - 1)) (begins m cs (k - 1)) (u % count_at cs (k - 1))) u

abbrev pub pagoda : ℕ → List Channel → ℕ → Meaning
pagoda m cs p = repeating (length cs) p (pagoda_page m cs)

pub pagoda_lawful : (m : ℕ) (cs : List Channel) (p : ℕ) → Lawful (pagoda m cs p)
pagoda_lawful m cs p = repeating_lawful (length cs) p (pagoda_page m cs)

-- the slots after which the first j subchannels of a channel begin again, each by itself
abbrev pub channel_cycles : ℕ → ℕ → ℕ → ℕ → List ℕ
channel_cycles m s f zero = []
channel_cycles m s f (suc j) = channel_cycles m s f j ++ (s * share_of m s f j ∷ [])

-- the same of all subchannels of the first k channels
abbrev pub cycles : ℕ → List Channel → ℕ → List ℕ
cycles m cs zero = []
cycles m cs (suc k) = cycles m cs k ++ channel_cycles m (count_at cs k) (begins m cs k) (count_at cs k)

-- the numbers that a plan may be asked for with
pub record Askable (m : ℕ) (cs : List Channel) : Type 0 where
  pub delay : (1 ≤ m) × (m ≤ 1024)
  pub channels : (1 ≤ length cs) × (length cs ≤ 8)

-- a channel that begins with page f may have s subchannels
abbrev pub Takes : ℕ → ℕ → ℕ → Type 0
Takes m s f = (1 ≤ s) × (s ≤ 32) × (s ≤ window m f)

-- the first k channels are dealt their pages, 1,024 at most
abbrev pub Deals : ℕ → List Channel → ℕ → Type 0
Deals m cs k = (i : ℕ) → i < k → Takes m (count_at cs i) (begins m cs i) × (dealt m cs (suc i) ≤ 1024)

-- the first j subchannels of a channel that begins with page f
abbrev pub subchannels_of : ℕ → ℕ → ℕ → ℕ → List Subchannel
subchannels_of m s f zero = []
subchannels_of m s f (suc j) = subchannels_of m s f j ++ (record { first = first_of m s f j; pages = share_of m s f j } ∷ [])

-- the subchannels of each of the first k channels
abbrev pub laid : ℕ → List Channel → ℕ → List (List Subchannel)
laid m cs zero = []
laid m cs (suc k) = laid m cs k ++ (subchannels_of m (count_at cs k) (begins m cs k) (count_at cs k) ∷ [])

-- a list of 32 places for so many subchannels or fewer: they come first, and the places after them are blank
abbrev pub filled : List Subchannel → List Subchannel
filled xs = xs ++ replicate (32 - length xs) (record { first = 0; pages = 0 })

-- the lists of the first k channels begin with their subchannels
abbrev pub Laid : ℕ → List Channel → ℕ → List (List Subchannel) → Type 0
Laid m cs k lists =
    (i : ℕ) → i < k → take (count_at cs i) (get_or lists i []) ≡ subchannels_of m (count_at cs i) (begins m cs i) (count_at cs i)

-- channel k is the first that gets no pages: it may not have its subchannels, told by 2, or its pages pass 1,024, told by 3
pub record BadChannel (m : ℕ) (cs : List Channel) (t : ℕ × List ℕ) : Type 0 where
  pub channel : ℕ
  pub within : channel < length cs
  pub before : Deals m cs channel
  pub fault : ((t ≡ (2, [])) × (Takes m (count_at cs channel) (begins m cs channel) → ⊥))
      ⊎ ((t ≡ (3, [])) × Takes m (count_at cs channel) (begins m cs channel) × (1024 < dealt m cs (suc channel)))

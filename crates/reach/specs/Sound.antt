-- What every desk keeps that steps can reach from a fresh one (document 01, "The desk"). Assumes nothing.
use Rattle.std.specs.Prelude.{ℕ, ◌≤◌, ◌<◌, ◌≡◌, Bool, true, false, ◌||◌, List, [], ◌∷◌, eqb, length, get_or}
use Rattle.line.specs.declared.Entry.{Entry}
use Rattle.line.specs.declared.Line.{Line}
use Rattle.line.specs.Line.{waiting, line_of, is_in}
use Rattle.hall.specs.declared.Hall.{Hall}
use Rattle.identities.specs.declared.Names.{Names}
use Rattle.hall.specs.Seats.{is_present, flags_at, no_flags, in_range}
use Rattle.identities.specs.Identity.{octets_of, name_of, no_name, name_at, same, length_allowed, Sixteen}
use Rattle.steps.specs.declared.Phase.{Phase}
use Rattle.steps.specs.declared.Phase.TheVariants.{Stopped, Idle, Taken, Revoking}
use Rattle.steps.specs.declared.Core.{Core}
use Rattle.steps.specs.Causes.{media_burst_too_long, media_burst_preempted}
use Rattle.giving.specs.Floor.{holds}
use Rattle.events.specs.declared.Desk.{Desk}
use Rattle.ways.specs.Ways.{is_busy}

-- all of a list are so; and each is so to all behind it
abbrev pub All : {A : Type 0} → (A → Type 0) → List A → Type 0
All P [] = Unit
All P (e ∷ es) = P e × All P es

abbrev pub Along : {A : Type 0} → (A → A → Type 0) → List A → Type 0
Along R [] = Unit
Along R (e ∷ es) = All (R e) es × Along R es

-- highest first
abbrev pub AtMost : ℕ → Entry → Type 0
AtMost p e = e.priority ≤ p

abbrev pub Sorted : List Entry → Type 0
Sorted es = Along (λ e x. AtMost e.priority x) es

-- nobody twice
abbrev pub Once : List Entry → Type 0
Once [] = Unit
Once (e ∷ es) = (is_in e.seat es ≡ false) × Once es

-- those who wait: highest first, nobody twice, at most the limit, and all of them present
pub record ListOk (h : Hall) (es : List Entry) : Type 0 where
  pub sorted : Sorted es
  pub once : Once es
  pub within : length es ≤ h.settings.limit
  pub here : (s : ℕ) → is_in s es ≡ true → is_present h s ≡ true

-- the places behind them are empty
pub record LineOk (h : Hall) (l : Line) : Type 0 where
  pub list : ListOk h (waiting l)
  pub behind : l ≡ line_of (waiting l)

abbrev pub cause_ok : Phase → Bool
cause_ok Stopped = true
cause_ok (Idle t7) = true
cause_ok (Taken e b) = true
cause_ok (Revoking e n) = eqb n media_burst_too_long || eqb n media_burst_preempted

-- the holder is not in line and is present; in Stopped and Idle nobody waits; a Revoke has cause 2 or 4
pub record FloorOk (h : Hall) (p : Phase) (es : List Entry) : Type 0 where
  pub out : (s : ℕ) → holds p s ≡ true → is_in s es ≡ false
  pub still : is_busy p ≡ false → es ≡ []
  pub holder : (s : ℕ) → holds p s ≡ true → is_present h s ≡ true
  pub cause : cause_ok p ≡ true

-- the counters are in their ranges
pub record NumbersOk (h : Hall) (c : Core) : Type 0 where
  pub sequence : c.sequence < 65536
  pub c7 : c.c7 ≤ h.settings.c7
  pub c20 : c.c20 ≤ h.settings.c20

-- what the core's account asks of the hall: it follows from the seats' and the settings' being right, below
pub record HallOk (h : Hall) : Type 0 where
  pub seats : length h.present ≡ 16
  pub limit : h.settings.limit ≤ 15
  pub c7 : 1 ≤ h.settings.c7
  pub c20 : 1 ≤ h.settings.c20

pub record CoreOk (h : Hall) (c : Core) : Type 0 where
  pub line : LineOk h c.line
  pub floor : FloorOk h c.phase (waiting c.line)
  pub numbers : NumbersOk h c

-- the settings are in their ranges; SSRCs are different and not the desk's; identities are different and of 1 to 62 octets, with zeros
-- behind them; a free seat has zeros throughout
pub record SeatsOk (h : Hall) (ns : Names) : Type 0 where
  pub settings : in_range h.settings ≡ true
  pub columns : Sixteen h ns
  pub ssrcs : (s t : ℕ) → is_present h s ≡ true → is_present h t ≡ true → get_or h.ssrcs s 0 ≡ get_or h.ssrcs t 0 → s ≡ t
  pub desk : (s : ℕ) → is_present h s ≡ true → get_or h.ssrcs s 0 ≡ h.settings.ssrc → ⊥
  pub lengths : (s : ℕ) → is_present h s ≡ true → length_allowed (octets_of (name_at ns s)) ≡ true
  pub behind : (s : ℕ) → name_at ns s ≡ name_of (octets_of (name_at ns s))
  pub identities : (s t : ℕ) → is_present h s ≡ true → is_present h t ≡ true →
      same (octets_of (name_at ns s)) (octets_of (name_at ns t)) ≡ true →
      s ≡ t
  pub free : (s : ℕ) → is_present h s ≡ false →
      (get_or h.ssrcs s 0 ≡ 0) × (get_or h.highest s 0 ≡ 0) × (flags_at h s ≡ no_flags) × (name_at ns s ≡ no_name)

-- the whole desk
pub record Sound (d : Desk) : Type 0 where
  pub seats : SeatsOk d.hall d.names
  pub core : CoreOk d.hall d.core

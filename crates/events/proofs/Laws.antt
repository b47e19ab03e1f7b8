-- An event line is read as it is written.
use Rattle.std.proofs.Common.{◌≡◌, ℕ, ◌≤◌, Bool, true, false, List, [], ◌++◌, Ok, Err, Result, refl, ap, subst, inl, inr, arith}
use Rattle.cab.specs.declared.event.Button.{Button}
use Rattle.cab.specs.declared.event.Button.TheVariants.{Bac, Bncv, Bcvr, Bfc, Blj, Blr}
use Rattle.cab.specs.declared.event.Kind.{Kind}
use Rattle.cab.specs.declared.event.Kind.TheVariants as kind
use Rattle.cab.specs.declared.event.Lever.{Lever}
use Rattle.cab.specs.declared.event.Lever.TheVariants.{Forward, Neutral, Reverse}
use Rattle.cab.specs.declared.event.Pulse.{Pulse}
use Rattle.cab.specs.declared.event.Pulse.TheVariants.{Restrictive, Clear}
use Rattle.text.specs.Faults.{illegal_at}
use Rattle.text.specs.Hexes.{hex_text}
use Rattle.text.specs.Legal.{Tells}
use Rattle.text.specs.Parts.{Reading, and_then, word_at}
use Rattle.text.specs.declared.fault.TextFault.{TextFault}
use Rattle.text.specs.declared.fault.TextFault.TheVariants.{Illegal, Short}
use Rattle.text.proofs.Decimals.{with_comma}
use Rattle.text.proofs.Numbers.{numbers_sound}
use Rattle.text.proofs.Sound.{Sound}
use Rattle.text.proofs.Fields.{All, word_sound}
use Rattle.text.proofs.Tables.{Among}
use Rattle.events.specs.declared.line.EventLine.{EventLine}
use Rattle.events.specs.Heard.{line_result, result_meant}
use Rattle.events.specs.Law.{Lawful, ReadsBack}
use Rattle.events.specs.Reads.{kinds, pulses, levers, buttons, flags, rest_at, what_at, said, event_at, event_read}
use Rattle.events.specs.Said.{Happening, tick, speed, pulse, lever, button, telegram, Written, lost, Said, GoodWhat, Good}
use Rattle.events.specs.Texts.{kind_text, kind_of, pulse_text, lever_text, button_text, press_text, crc_text, rest_text, event_text}
use Rattle.text.proofs.Last.{Last, last_read, last_map, last_then, last_none, sound_last, last_tells, last_reads_back, Composed}
use Rattle.events.proofs.Pairs.{Pairs, pairs_last}
use Rattle.events.proofs.Speeds.{speed_last}

-- Words: each value is in its table.

kind_among : (k : Kind) → Among k kinds
kind_among kind.Tick = inl refl
kind_among kind.Speed = inr (inl refl)
kind_among kind.Pulse = inr (inr (inl refl))
kind_among kind.Lever = inr (inr (inr (inl refl)))
kind_among kind.Button = inr (inr (inr (inr (inl refl))))
kind_among kind.Telegram = inr (inr (inr (inr (inr (inl refl)))))

pulse_among : (p : Pulse) → Among p pulses
pulse_among Restrictive = inl refl
pulse_among Clear = inr (inl refl)

lever_among : (l : Lever) → Among l levers
lever_among Forward = inl refl
lever_among Neutral = inr (inl refl)
lever_among Reverse = inr (inr (inl refl))

button_among : (b : Button) → Among b buttons
button_among Bac = inl refl
button_among Bncv = inr (inl refl)
button_among Bcvr = inr (inr (inl refl))
button_among Bfc = inr (inr (inr (inl refl)))
button_among Blj = inr (inr (inr (inr (inl refl))))
button_among Blr = inr (inr (inr (inr (inr (inl refl)))))

flag_among : (b : Bool) → Among b flags
flag_among true = inl refl
flag_among false = inr (inl refl)

kind_sound : Sound All kind_text (word_at kind_text kinds)
kind_sound = word_sound kind_text _ _ refl kind_among

pulse_sound : Sound All pulse_text (word_at pulse_text pulses)
pulse_sound = word_sound pulse_text _ _ refl pulse_among

lever_sound : Sound All lever_text (word_at lever_text levers)
lever_sound = word_sound lever_text _ _ refl lever_among

button_sound : Sound All button_text (word_at button_text buttons)
button_sound = word_sound button_text _ _ refl button_among

press_sound : Sound All press_text (word_at press_text flags)
press_sound = word_sound press_text _ _ refl flag_among

crc_sound : Sound All crc_text (word_at crc_text flags)
crc_sound = word_sound crc_text _ _ refl flag_among

-- What stands behind a kind.

abbrev Of : Kind → Happening Written → Type 0
Of k w = GoodWhat w × (kind_of w ≡ k)

-- what it carries beside its kind
abbrev Carried : Kind → Type 0
Carried kind.Tick = Unit {0}
Carried kind.Speed = Written
Carried kind.Pulse = Pulse
Carried kind.Lever = Lever
Carried kind.Button = Button × Bool
Carried kind.Telegram = Bool × List ℕ

abbrev carrying : (k : Kind) → Carried k → Happening Written
carrying kind.Tick u = tick
carrying kind.Speed v = speed v
carrying kind.Pulse p = pulse p
carrying kind.Lever l = lever l
carrying kind.Button p = button p.0 p.1
carrying kind.Telegram p = telegram p.0 p.1

carried : (w : Happening Written) → (x : Carried (kind_of w)) × (w ≡ carrying (kind_of w) x)
carried tick = (tt, refl)
carried (speed v) = (v, refl)
carried (pulse p) = (p, refl)
carried (lever l) = (l, refl)
carried (button b p) = ((b, p), refl)
carried (telegram c bs) = ((c, bs), refl)

from_kind : (k : Kind) (w : Happening Written) → Of k w → (x : Carried k) × GoodWhat (carrying k x) × (w ≡ carrying k x)
from_kind k w g =
    let c = carried w in
    subst (λ (j : Kind). (x : Carried j) × GoodWhat (carrying j x) × (w ≡ carrying j x)) g.1 (c.0, subst GoodWhat c.1 g.0, c.1)

tick_last : Last (Of kind.Tick) rest_text (rest_at kind.Tick)
tick_last = last_map (Of kind.Tick) rest_text (λ u. tick) (λ u g. (tt, refl)) (λ u g. refl) (from_kind kind.Tick) last_none

speed_rest : Last (Of kind.Speed) rest_text (rest_at kind.Speed)
speed_rest = last_map (Of kind.Speed) rest_text speed (λ v g. (g, refl)) (λ v g. refl) (from_kind kind.Speed) speed_last

pulse_rest : Last (Of kind.Pulse) rest_text (rest_at kind.Pulse)
pulse_rest = last_map (Of kind.Pulse) rest_text pulse (λ p g. (tt, refl)) (λ p g. refl) (from_kind kind.Pulse) (sound_last pulse_sound)

lever_rest : Last (Of kind.Lever) rest_text (rest_at kind.Lever)
lever_rest = last_map (Of kind.Lever) rest_text lever (λ l g. (tt, refl)) (λ l g. refl) (from_kind kind.Lever) (sound_last lever_sound)

button_rest : Last (Of kind.Button) rest_text (rest_at kind.Button)
button_rest = last_then All button_text (λ b (p : Bool). Unit {0}) (λ b p. press_text p) (Of kind.Button) rest_text button composed button_sound (λ b g. sound_last press_sound)
  where
    composed : Composed All button_text (λ b (p : Bool). Unit {0}) (λ b p. press_text p) (Of kind.Button) rest_text button
    composed = record {
      good = λ b p g h. (tt, refl);
      wrote = λ b p g h. refl;
      parts = λ w g. let x = from_kind kind.Button w g in record { a = x.0.0; b = x.0.1; first = tt; second = tt; is = x.2 };
      fill = λ b g. (true, tt);
    }

telegram_rest : Last (Of kind.Telegram) rest_text (rest_at kind.Telegram)
telegram_rest = last_then All crc_text (λ c bs. Pairs 104 bs) (λ c bs. hex_text bs) (Of kind.Telegram) rest_text telegram composed crc_sound (λ c g. pairs_last 104)
  where
    composed : Composed All crc_text (λ c bs. Pairs 104 bs) (λ c bs. hex_text bs) (Of kind.Telegram) rest_text telegram
    composed = record {
      good = λ c bs g h. (h, refl);
      wrote = λ c bs g h. refl;
      parts = λ w g. let x = from_kind kind.Telegram w g in record { a = x.0.0; b = x.0.1; first = tt; second = x.1; is = x.2 };
      fill = λ c g. ([], (omega arith, tt));
    }

rest_last : (k : Kind) → Last (Of k) rest_text (rest_at k)
rest_last kind.Tick = tick_last
rest_last kind.Speed = speed_rest
rest_last kind.Pulse = pulse_rest
rest_last kind.Lever = lever_rest
rest_last kind.Button = button_rest
rest_last kind.Telegram = telegram_rest

-- The kind and what stands behind it.

some_of : (k : Kind) → (w : Happening Written) × Of k w
some_of kind.Tick = (tick, (tt, refl))
some_of kind.Speed = (speed lost, (tt, refl))
some_of kind.Pulse = (pulse Clear, (tt, refl))
some_of kind.Lever = (lever Neutral, (tt, refl))
some_of kind.Button = (button Bac true, (tt, refl))
some_of kind.Telegram = (telegram true [], ((omega arith, tt), refl))

abbrev what_text : Happening Written → List ℕ
what_text w = kind_text (kind_of w) ++ rest_text w

same_read : {A : Type 0} (r : Reading A) → and_then r (λ a n. Ok (a, n)) ≡ r
same_read (Ok p) = refl
same_read (Err p) = refl

what_same : (line : List ℕ) (at : ℕ) → and_then (word_at kind_text kinds line at) (λ k n. and_then (rest_at k line n) (λ w m. Ok (w, m))) ≡ what_at line at
what_same line at = here (word_at kind_text kinds line at)
  where
    here : (r : Reading Kind) → and_then r (λ k n. and_then (rest_at k line n) (λ w m. Ok (w, m))) ≡ and_then r (λ k n. rest_at k line n)
    here (Ok p) = same_read (rest_at p.0 line p.1)
    here (Err p) = refl

what_last : Last GoodWhat what_text what_at
what_last = last_read what_at what_same (last_then All kind_text Of (λ k w. rest_text w) GoodWhat what_text (λ k w. w) composed kind_sound (λ k g. rest_last k))
  where
    composed : Composed All kind_text Of (λ k w. rest_text w) GoodWhat what_text (λ k w. w)
    composed = record {
      good = λ k w g h. h.0;
      wrote = λ k w g h. ap (λ (j : Kind). kind_text j ++ rest_text w) h.1;
      parts = λ w g. record { a = kind_of w; b = w; first = tt; second = (g, refl); is = refl };
      fill = λ k g. some_of k;
    }

-- The whole line.

event_last : Last Good event_text event_at
event_last = last_then (λ t. t ≤ 9999999999) with_comma (λ t w. GoodWhat w) (λ t w. what_text w) Good event_text said composed (numbers_sound 9999999999 (omega arith)) (λ t g. what_last)
  where
    composed : Composed (λ t. t ≤ 9999999999) with_comma (λ t w. GoodWhat w) (λ t w. what_text w) Good event_text said
    composed = record {
      good = λ t w g h. (g, h);
      wrote = λ t w g h. refl;
      parts = λ s g. record { a = s.time; b = s.what; first = g.0; second = g.1; is = refl };
      fill = λ t g. (tick, tt);
    }

pub event_tells : (line : List ℕ) → Tells Good event_text line (event_read line)
event_tells line = last_tells event_last line

pub event_reads_back : ReadsBack
event_reads_back s g = last_reads_back event_last s g

pub lawful : (line : List ℕ) (r : Result EventLine TextFault) → line_result r ≡ illegal_at (result_meant (event_read line)) → Lawful line r
lawful line r e = here r (event_read line) (event_tells line) e
  where
    here : (r : Result EventLine TextFault) (x : Result Said ℕ) → Tells Good event_text line x → line_result r ≡ illegal_at (result_meant x) → Lawful line r
    here (Ok l) (Ok s) t e = (s, t.0, t.1, cc)
    here (Ok l) (Err p) t e = cc
    here (Err (Illegal p)) (Ok s) t e = cc
    here (Err Short) (Ok s) t e = cc
    here (Err (Illegal p)) (Err q) t e = let i : q ≡ p = cc in subst (λ (n : ℕ). Lawful line (Err (Illegal n))) i t
    here (Err Short) (Err q) t e = cc

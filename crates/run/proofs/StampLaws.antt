-- The promise of the time-stamps, proved: what each act does to them, by the laws of its own crate; a power failure, by an induction over the acts in
-- it; and every run from fresh.
-- Assumes nothing.
use Prim.Native.Nat.{ℕ, ◌<◌, ◌≤◌}
use native.Mathlib.Omega.{arith}
use mathlib.Core.Path.{◌≡◌, refl, sym, ap, subst, ◌∙◌}
use mathlib.Core.Bool.{true, false, not, true≢false}
use mathlib.Core.Logic.{◌⊎◌, inl, inr, ⊎_elim, ◌≢◌}
use mathlib.Core.List.{List, [], ◌∷◌}
use borrow.Author.Tests.{eqb-true, eqb-false, ltb-true, ltb-false, not-false}
use lib.Dec.{eqb, ltb}
use lib.Seq.{get_or-set_other}
use lib.ListN.{length, get_or}
use Rattle.base.specs.Words.{bit}
use Rattle.base.specs.Wait.{Waited}
use Rattle.base.proofs.Tests.{by_cases, true_false}
use Rattle.record.specs.declared.Act.{Act}
use Rattle.record.specs.declared.Pin.{Pin}
use Rattle.record.specs.declared.Act.TheVariants.{Select, Byte, End, Wait, Cut, Up, Set}
use Rattle.record.specs.declared.Device.{Device}
use Rattle.record.specs.declared.Place.{Place}
use Rattle.record.specs.declared.Place.TheVariants.{EepromAt, ClockAt, IdAt}
use Rattle.record.specs.declared.Stage.{Stage}
use Rattle.record.specs.declared.Stage.TheVariants.{Idle, Opened, Unheard, Instruction, Reading, Writing, Second, Over}
use Rattle.record.specs.Fresh.{fresh}
use Rattle.record.specs.Numbers.{place_kind, place_value, stage_kind}
use Rattle.record.specs.Part.{top_of, boots_of}
use Rattle.record.specs.Registers.{vbaten, vbat, day_at, event_at}
use Rattle.record.specs.Stages.{frame_place}
use Rattle.record.specs.Stamps.{to_day, NoStamps, Shows}
use Rattle.record.specs.World.{World, Shaped, fresh_world}
use Rattle.record.proofs.StampLaws.{shows_kept}
use Rattle.refusals.specs.Refusal.{wrong_power}
use Rattle.refusals.proofs.RangeLaws.{in_range_lem, out_of_range_lem}
use Rattle.refusals.proofs.TableLaws as table
use Rattle.ticks.specs.Tick.{waited}
use Rattle.ticks.proofs.StampLaws.{StampsStay, stay_then, wait_stamps}
use Rattle.ticks.proofs.WaitLaws.{wait_device, wait_spent}
use Rattle.frames.specs.Frame.{after_select, after_byte}
use Rattle.frames.proofs.FrameLaws.{written_beside}
use Rattle.replies.proofs.ReplyLaws.{stamp_reply}
use Rattle.frames.proofs.StampLaws.{byte_stores, byte_clears, byte_leaves_vbat, byte_other_vbat, byte_stamps}
use Rattle.ends.specs.End.{after_end}
use Rattle.pins.specs.Set.{after_set}
use Rattle.pins.proofs.SetLaws.{set_beside, set_regs}
use Rattle.power.specs.Power.{after_cut, cut_world, after_up}
use Rattle.power.proofs.PowerLaws.{cut_device, cut_beside}
use Rattle.power.proofs.StampLaws.{cut_mark_lem, cut_stamps, cut_held, fresh_stamp, cut_lost, up_mark_lem, up_stamps, up_leaves}
use Rattle.acts.specs.Act.{Outcome, accepted, refusal_in, performed}
use Rattle.acts.proofs.OutcomeLaws.{answered_by_table, by_acceptance, performed_case, changed_by_lem, done_passed, done_as}
use Rattle.acts.proofs.SuitedLaws.{passed_range}
use Rattle.acts.proofs.ValidLaws.{Valid, performed_valid, fresh_valid}
use Rattle.run.specs.Claim.{Input, our_chip, world_after}
use Rattle.run.specs.Stamps.{StampAct, fails, forgets, returns, clears, NoUp, power_off, power_back, PowerFailure, TimeStamps}
use Rattle.run.proofs.RunLaws.{reached_in_range}

-- whether a stage is a WRITE whose next byte goes to 04h
day_place : (p : Place) → (Writing p ≡ to_day) ⊎ (Writing p ≢ to_day)
day_place (EepromAt a) = inr (λ e. omega (arith, ap (λ (s : Stage). place_kind (frame_place s)) e))
day_place (ClockAt a) =
    by_cases (eqb a.0 day_at)
    (λ t. let q = eqb-true a.0 day_at t in inl (λ i. Writing (ClockAt (record { 0 = q i }))))
    (λ f. inr (λ e. eqb-false a.0 day_at f (ap (λ (s : Stage). place_value (frame_place s)) e)))
day_place (IdAt a) = inr (λ e. omega (arith, ap (λ (s : Stage). place_kind (frame_place s)) e))

other_kind : (s : Stage) → stage_kind s ≢ 5 → s ≢ to_day
other_kind s n e = n (ap stage_kind e)

day_stage : (s : Stage) → (s ≡ to_day) ⊎ (s ≢ to_day)
day_stage Idle = inr (other_kind Idle (λ e. omega arith))
day_stage Opened = inr (other_kind Opened (λ e. omega arith))
day_stage Unheard = inr (other_kind Unheard (λ e. omega arith))
day_stage (Instruction c) = inr (other_kind (Instruction c) (λ e. omega arith))
day_stage (Reading p) = inr (other_kind (Reading p) (λ e. omega arith))
day_stage (Writing p) = day_place p
day_stage (Second q) = inr (other_kind (Second q) (λ e. omega arith))
day_stage (Over l) = inr (other_kind (Over l) (λ e. omega arith))

-- A wait leaves time-stamps, VBAT and mark; select and end leave registers and mark.
wait_stays : (part n : ℕ) (w : World) → StampsStay w.device (waited (boots_of part) n w).after.device
wait_stays part n w =
    subst (StampsStay w.device) (ap (λ (x : Waited Device). x.after) (wait_device (boots_of part) n w)) (wait_stamps (boots_of part) n w.device)

cut_is : (P : Device → Type 0) (mask : ℕ) (w : World) → P (after_cut mask w.device) → P (cut_world mask w).device
cut_is P mask w p = subst P (sym (cut_device mask w)) p

-- A pin leaves them.
set_stays : (p : Pin) (n : ℕ) (d : Device) → StampsStay d (after_set p n d)
set_stays p n d =
    record {
      stamps = λ k h. set_regs (λ (l : List ℕ). get_or l k 0 ≡ get_or d.regs k 0) p n d (λ v. get_or-set_other d.regs event_at k v 0 (λ e. omega arith));
      vbat = set_regs (λ (l : List ℕ). vbat l ≡ vbat d.regs) p n d (λ v. ap (λ (x : ℕ). bit x 4) (get_or-set_other d.regs event_at day_at v 0 (λ e. omega arith)));
      mark = (set_beside p n d).mark;
    }

-- What an accepted act changes.
module _ (part arg : ℕ) (w : World) (z : Shaped part w) where
  size : length w.device.regs ≡ 32
  size = z.sized.regs

  stamps_of :
      (act : Act) → refusal_in part act arg w ≡ 0 → (k : ℕ) → 0x18 ≤ k
      → get_or (accepted part arg w act).after.device.regs k 0 ≢ get_or w.device.regs k 0 → StampAct act arg w.device k
  unfolding after_select after_end
  stamps_of Select e k h n = absurd (n refl)
  stamps_of Byte e k h n =
      ⊎_elim
      (λ s.
      by_cases (bit arg 4)
      (λ t. absurd (n (byte_stamps (boots_of part) (top_of part) arg w.device size (passed_range part Byte arg w e).clock.inside (λ q. true_false t q.1) k h)))
      (λ f. clears refl s f))
      (λ s. absurd (n (byte_stamps (boots_of part) (top_of part) arg w.device size (passed_range part Byte arg w e).clock.inside (λ q. s q.0) k h)))
      (day_stage w.device.frame.stage)
  stamps_of End e k h n = absurd (n refl)
  stamps_of Wait e k h n = absurd (n ((wait_stays part arg w).stamps k h))
  stamps_of Cut e k h n =
      by_cases (vbaten w.device.regs)
      (λ t.
      by_cases (vbat w.device.regs)
      (λ v. absurd (n (cut_is (λ (x : Device). get_or x.regs k 0 ≡ get_or w.device.regs k 0) arg w ((cut_held arg w.device t v).stamps k h))))
      (λ v.
      by_cases (ltb k 0x1c)
      (λ l. fails refl t v (ltb-true k 0x1c l))
      (λ l. absurd (n (cut_is (λ (x : Device). get_or x.regs k 0 ≡ get_or w.device.regs k 0) arg w ((cut_stamps arg w.device t v size).up k (ltb-false k 0x1c l)))))))
      (λ f. forgets refl f)
  stamps_of (Set p) e k h n = absurd (n ((set_stays p arg w.device).stamps k h))
  stamps_of Up e k h n =
      by_cases w.device.mark
      (λ t.
      by_cases (ltb k 0x1c)
      (λ l. absurd (n ((up_stamps w.device t size).others k (ltb-true k 0x1c l))))
      (λ l. returns refl t (ltb-false k 0x1c l)))
      (λ f. absurd (n (ap (λ (x : List ℕ). get_or x k 0) (up_leaves w.device f))))

  vbat_of :
      (act : Act) → refusal_in part act arg w ≡ 0
      → vbat (accepted part arg w act).after.device.regs ≢ vbat w.device.regs → StampAct act arg w.device 0x18
  unfolding after_select after_end
  vbat_of Select e n = absurd (n refl)
  vbat_of Byte e n =
      ⊎_elim
      (λ s. by_cases (bit arg 4) (λ t. absurd (n (byte_leaves_vbat (boots_of part) (top_of part) arg w.device size s t))) (λ f. clears refl s f))
      (λ s. absurd (n (byte_other_vbat (boots_of part) (top_of part) arg w.device size s)))
      (day_stage w.device.frame.stage)
  vbat_of End e n = absurd (n refl)
  vbat_of Wait e n = absurd (n (wait_stays part arg w).vbat)
  vbat_of Cut e n =
      by_cases (vbaten w.device.regs)
      (λ t.
      by_cases (vbat w.device.regs)
      (λ v. absurd (n (cut_is (λ (x : Device). vbat x.regs ≡ vbat w.device.regs) arg w ((cut_held arg w.device t v).vbat ∙ sym v))))
      (λ v. fails refl t v (omega arith)))
      (λ f. forgets refl f)
  vbat_of (Set p) e n = absurd (n (set_stays p arg w.device).vbat)
  vbat_of Up e n =
      by_cases w.device.mark
      (λ t. absurd (n (ap (λ (x : ℕ). bit x 4) ((up_stamps w.device t size).others day_at (omega arith)))))
      (λ f. absurd (n (ap vbat (up_leaves w.device f))))

-- The mark, whatever the sizes.
mark_of :
    (part arg : ℕ) (w : World) (act : Act) → (accepted part arg w act).after.device.mark ≢ w.device.mark → (act ≡ Cut) ⊎ (act ≡ Up)
unfolding after_select after_byte after_end
mark_of part arg w Select n = absurd (n refl)
mark_of part arg w Byte n = absurd (n (written_beside (boots_of part) w.device arg w.device.frame.stage).mark)
mark_of part arg w End n = absurd (n refl)
mark_of part arg w Wait n = absurd (n (wait_stays part arg w).mark)
mark_of part arg w Cut n = inl refl
mark_of part arg w Up n = inr refl
mark_of part arg w (Set p) n = absurd (n (set_stays p arg w.device).mark)

abbrev device_of_lem : Outcome → Device
device_of_lem o = o.after.device

-- A power failure. What stays in it, from the cut to the up: power is off, and time-stamps, VBAT and mark are those of the cut.
record Off (part : ℕ) (c v : World) : Type 0 where
  valid : Valid part v
  power : v.device.power ≡ false
  stay : StampsStay c.device v.device

-- one act but an up: a wait and a pin leave them, and the others are refused
off_act :
    (part : ℕ) (act : Act) (arg : ℕ) (c v : World) → (act ≡ Up → arg ≢ 0) → Off part c v → Off part c (performed part act arg v).after
off_act part act arg c v n o =
    let k = performed_case Kept part act arg v (o.power, o.stay) (λ e. kept act n (table.accepted part act arg v.device _ _ e)) in
    record { valid = performed_valid part act arg v o.valid; power = k.0; stay = k.1 }
  where
    Kept : World → Type 0
    Kept x = (x.device.power ≡ false) × StampsStay c.device x.device

    -- these act with power on alone
    never : {A : Type 0} → not v.device.power ≡ false → A
    never p = absurd (true_false (not-false v.device.power p) o.power)

    kept :
        (act : Act) → (act ≡ Up → arg ≢ 0) → table.Accepted part act arg v.device (length v.eeprom) (length v.id)
        → Kept (accepted part arg v act).after
    kept Select m a = never a.power
    kept Byte m a = never a.power
    kept End m a = never a.power
    kept Wait m a = ((wait_spent part (boots_of part) arg v o.valid.range).still.power ∙ o.power, stay_then o.stay (wait_stays part arg v))
    kept Cut m a = never a.power
    kept (Set p) m a = ((set_beside p arg v.device).power ∙ o.power, stay_then o.stay (set_stays p arg v.device))
    kept Up m a = absurd (m refl (eqb-true arg 0 (not-false (eqb arg 0) a.arg)))

off_acts : (part : ℕ) (c : World) (xs : List Input) (v : World) → NoUp xs → Off part c v → Off part c (world_after our_chip part xs v)
unfolding world_after our_chip NoUp
off_acts part c [] v n o = o
off_acts part c (x ∷ xs) v n o = off_acts part c xs (performed part x.act x.arg v).after n.1 (off_act part x.act x.arg c v n.0 o)

-- the up is done, and leaves what the mark asks for
module _ (part mask : ℕ) (xs : List Input) (w : World) (z : Shaped part w) (e : (performed part Cut mask w).number ≡ 0) (n : NoUp xs) where
  abbrev c : World
  c = (performed part Cut mask w).after

  abbrev v : World
  v = power_off part mask xs w

  passed_cut : refusal_in part Cut mask w ≡ 0
  passed_cut = done_passed part Cut mask w e

  cut_done : (performed part Cut mask w).after.device ≡ after_cut mask w.device
  cut_done = ap device_of_lem (done_as part Cut mask w e) ∙ cut_device mask w

  suited : table.Suited part w.device (length w.eeprom) (length w.id)
  suited = (table.accepted part Cut mask w.device _ _ passed_cut).setup

  begins : Off part c c
  begins =
      record {
        valid = performed_valid part Cut mask w (record { range = in_range_lem part w.device suited.ranged; shaped = z });
        power = ap (λ (x : Device). x.power) cut_done ∙ (cut_beside mask w.device).power;
        stay = record { stamps = λ k h. refl; vbat = refl; mark = refl };
      }

  off : Off part c v
  off = off_acts part c xs c n begins

  passed_up : refusal_in part Up 0 v ≡ 0
  passed_up =
      table.passed part Up 0 v.device (length v.eeprom) (length v.id)
      (record {
        setup =
            record {
              known = suited.known;
              eeprom = off.valid.shaped.eeprom;
              ids = off.valid.shaped.id;
              ranged = out_of_range_lem part v.device off.valid.range;
            };
        arg = refl;
        power = off.power;
        select = refl;
      })

  up_done : (power_back part mask xs w).after.device ≡ after_up v.device
  up_done = ap device_of_lem (by_acceptance part Up 0 v passed_up)

  up_size : length v.device.regs ≡ 32
  up_size = off.valid.shaped.sized.regs

  -- without a mark the up leaves the registers
  unmarked_up : (after_cut mask w.device).mark ≡ false → (power_back part mask xs w).after.device.regs ≡ v.device.regs
  unmarked_up m =
      ap (λ (x : Device). x.regs) up_done
      ∙ up_leaves v.device (off.stay.mark ∙ ap (λ (x : Device). x.mark) cut_done ∙ m)

  -- what the cut left is there at the up
  same_up : (k : ℕ) → 0x18 ≤ k → get_or v.device.regs k 0 ≡ get_or (after_cut mask w.device).regs k 0
  same_up k h = off.stay.stamps k h ∙ ap (λ (x : Device). get_or x.regs k 0) cut_done

  vbat_up : vbat v.device.regs ≡ vbat (after_cut mask w.device).regs
  vbat_up = off.stay.vbat ∙ ap (λ (x : Device). vbat x.regs) cut_done

  power_failure : PowerFailure part mask xs w
  power_failure =
      record {
        done = answered_by_table part Up 0 v ∙ passed_up;
        stamped =
            λ t f.
            let s = cut_stamps mask w.device t f z.sized.regs in
            let u = up_stamps v.device (off.stay.mark ∙ ap (λ (x : Device). x.mark) cut_done ∙ s.mark) up_size in
            let at : (k : ℕ) → k < 0x1c → get_or (power_back part mask xs w).after.device.regs k 0 ≡ get_or v.device.regs k 0 =
            λ k h. ap (λ (x : Device). get_or x.regs k 0) up_done ∙ u.others k h in (
              shows_kept 0x18 (after_cut mask w.device).regs (power_back part mask xs w).after.device.regs w.device.regs
                  (λ k h l. at k (omega arith) ∙ same_up k h) s.down,
              subst (λ (x : Device). Shows 0x1c x.regs v.device.regs) (sym up_done) u.up,
              ap (λ (x : ℕ). bit x 4) (at day_at (omega arith)) ∙ vbat_up ∙ s.vbat,
            );
        held =
            λ t b.
            let s = cut_held mask w.device t b in
            let u = unmarked_up s.mark in (
              λ k h. ap (λ (x : List ℕ). get_or x k 0) u ∙ same_up k h ∙ s.stamps k h,
              ap vbat u ∙ vbat_up ∙ s.vbat,
            );
        lost =
            λ f.
            let s = cut_lost mask w.device f in
            let u = unmarked_up s.mark in (
              λ k h l. ap (λ (x : List ℕ). get_or x k 0) u ∙ same_up k h ∙ s.stamps k h l,
              ap vbat u ∙ vbat_up ∙ s.vbat,
            );
      }

-- Every run from fresh: time-stamps only while VBAT is set, a mark only while it is.
record Settled (d : Device) : Type 0 where
  empty : vbat d.regs ≡ false → NoStamps d.regs
  marked : d.mark ≡ true → vbat d.regs ≡ true

stay_settled : (d e : Device) → StampsStay d e → Settled d → Settled e
stay_settled d e s t =
    record {
      empty = λ f k h l. s.stamps k h ∙ t.empty (sym s.vbat ∙ f) k h l;
      marked = λ m. s.vbat ∙ t.marked (sym s.mark ∙ m);
    }

module _ (part arg : ℕ) (w : World) (v : Valid part w) (t : Settled w.device) where
  settled_size : length w.device.regs ≡ 32
  settled_size = v.shaped.sized.regs

  -- a byte finds power on, and so no mark
  byte_settled : wrong_power Byte w.device.power ≡ false → Settled (after_byte (boots_of part) (top_of part) arg w.device)
  unfolding after_byte
  byte_settled p =
      let d = w.device in
      let boots = boots_of part in
      let top = top_of part in
      record {
        empty =
            λ f.
            ⊎_elim
            (λ s.
            by_cases (bit arg 4)
            (λ b k h l.
            byte_stamps boots top arg d settled_size v.range.clock.inside (λ q. true_false b q.1) k h
            ∙ t.empty (sym (byte_leaves_vbat boots top arg d settled_size s b) ∙ f) k h l)
            (λ b. (byte_clears boots top arg d settled_size s b).1))
            (λ s k h l.
            byte_stamps boots top arg d settled_size v.range.clock.inside (λ q. s q.0) k h
            ∙ t.empty (sym (byte_other_vbat boots top arg d settled_size s) ∙ f) k h l)
            (day_stage d.frame.stage);
        marked =
            λ m.
            absurd
            (true_false (sym (written_beside boots d arg d.frame.stage).mark ∙ m) (v.range.power.unmarked (not-false d.power p)));
      }

  cut_settled : Settled (after_cut arg w.device)
  cut_settled =
      let d = w.device in
      by_cases (vbaten d.regs)
      (λ b.
      by_cases (vbat d.regs)
      (λ h. let s = cut_held arg d b h in record { empty = λ f. absurd (true_false s.vbat f); marked = λ m. s.vbat })
      (λ h. let s = cut_stamps arg d b h settled_size in record { empty = λ f. absurd (true_false s.vbat f); marked = λ m. s.vbat }))
      (λ b. let s = cut_lost arg d b in record { empty = λ f. s.stamps; marked = λ m. absurd (true_false m s.mark) })

  up_settled : Settled (after_up w.device)
  up_settled =
      let d = w.device in
      record {
        empty =
            λ f.
            by_cases d.mark
            (λ m. absurd (true_false (ap (λ (x : ℕ). bit x 4) ((up_stamps d m settled_size).others day_at (omega arith)) ∙ t.marked m) f))
            (λ m. let u = up_leaves d m in subst NoStamps (sym u) (t.empty (ap vbat (sym u) ∙ f)));
        marked = λ m. absurd (true_false m (up_mark_lem d));
      }

  settled_of : (act : Act) → refusal_in part act arg w ≡ 0 → Settled (accepted part arg w act).after.device
  unfolding after_select after_end
  settled_of Select e = record { empty = t.empty; marked = t.marked }
  settled_of Byte e = byte_settled (table.accepted part Byte arg w.device _ _ e).power
  settled_of End e = record { empty = t.empty; marked = t.marked }
  settled_of Wait e = stay_settled w.device _ (wait_stays part arg w) t
  settled_of Cut e = cut_is Settled arg w cut_settled
  settled_of Up e = up_settled
  settled_of (Set p) e = stay_settled w.device _ (set_stays p arg w.device) t

settled_run : (part : ℕ) (xs : List Input) (w : World) → Valid part w → Settled w.device → Settled (world_after our_chip part xs w).device
unfolding world_after our_chip
settled_run part [] w v t = t
settled_run part (x ∷ xs) w v t =
    settled_run part xs (performed part x.act x.arg w).after (performed_valid part x.act x.arg w v)
    (performed_case (λ (y : World). Settled y.device) part x.act x.arg w t (λ e. settled_of part x.arg w v t x.act e))

fresh_settled : Settled fresh
unfolding fresh
fresh_settled = record { empty = λ f. fresh_stamp; marked = λ m. absurd (true≢false (sym m)) }

-- The promise.
pub time_stamps_lem : TimeStamps
time_stamps_lem =
    record {
      failure = power_failure;
      cut_mark =
          λ part mask w e.
          ap (λ (o : Outcome). o.after.device.mark) (done_as part Cut mask w e)
          ∙ ap (λ (x : Device). x.mark) (cut_device mask w) ∙ cut_mark_lem mask w.device;
      marked =
          λ part w z e m.
          subst (λ (x : Device). Shows 0x1c x.regs w.device.regs) (sym (ap device_of_lem (done_as part Up 0 w e)))
          (up_stamps w.device m z.sized.regs).up;
      plain = λ part w e m. ap (λ (o : Outcome). o.after.device.regs) (done_as part Up 0 w e) ∙ up_leaves w.device m;
      up_mark = λ part w e. ap (λ (o : Outcome). o.after.device.mark) (done_as part Up 0 w e) ∙ up_mark_lem w.device;
      cleared =
          λ part arg w z e s f.
          let b = byte_clears (boots_of part) (top_of part) arg w.device z.sized.regs s f in
          rw (done_as part Byte arg w e) (b.1, b.0);
      left =
          λ part arg w z e s b.
          let r = passed_range part Byte arg w (done_passed part Byte arg w e) in
          rw (done_as part Byte arg w e) (
            byte_stamps (boots_of part) (top_of part) arg w.device z.sized.regs r.clock.inside (λ q. true_false b q.1),
            byte_leaves_vbat (boots_of part) (top_of part) arg w.device z.sized.regs s b,
          );
      stored =
          λ part arg w z e s. rw (done_as part Byte arg w e) (byte_stores (boots_of part) (top_of part) arg w.device z.sized.regs s);
      read =
          λ part arg w a e s l h. ap (λ (o : Outcome). o.reply) (done_as part Byte arg w e) ∙ stamp_reply w.eeprom w.id w.device a s l h;
      only =
          λ part act arg w k z h.
          changed_by_lem (λ (x : World). get_or x.device.regs k 0) (StampAct act arg w.device k) part act arg w
          (λ e n. stamps_of part arg w z act e k h n);
      only_vbat =
          λ part act arg w z.
          changed_by_lem (λ (x : World). vbat x.device.regs) (StampAct act arg w.device 0x18) part act arg w (λ e n. vbat_of part arg w z act e n);
      only_mark =
          λ part act arg w.
          changed_by_lem (λ (x : World). x.device.mark) ((act ≡ Cut) ⊎ (act ≡ Up)) part act arg w (λ e n. mark_of part arg w act n);
      unmarked = λ part p xs. (reached_in_range part p xs).power.unmarked;
      empty = λ part p xs. (settled_run part xs (fresh_world part) (fresh_valid part) fresh_settled).empty;
    }

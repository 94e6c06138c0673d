-- A far end that clears by its messages just what is cleared: calls may ring.
use Rattle.bx_day.proofs.Tick.{by_cases}
use Rattle.std.proofs.Common.{◌≡◌, ℕ, Bool, true, false, List, [], ◌∷◌, Option, Some, None, refl, sym, subst, ◌∙◌, inl, inr, if◌then◌else◌}
use Rattle.std.proofs.lemmas.Bool.{false≢true, true≢false, false_from_ne_true}
use Rattle.bx_q931.specs.declared.kind.Kind.{Kind}
use Rattle.bx_q931.specs.declared.kind.Kind.TheVariants.{Disconnect, Release, ReleaseComplete, StatusEnquiry, Status}
use Rattle.bx_calls.specs.Hearing.{Heard, reports_null}
use Rattle.bx_calls.specs.NetTable.{net_row, net_awake_state, net_is_clearing, net_rung, is_alerted, net_to}
use Rattle.bx_calls.specs.PlainCalls.{PlainNetCall}
use Rattle.bx_calls.specs.Said.{Said}
use Rattle.bx_calls.specs.declared.net_state.NetOrigin.{NetOrigin}
use Rattle.bx_calls.specs.declared.net_state.NetState.{NetState}
use Rattle.bx_calls.specs.declared.net_state.NetState.TheVariants.{OutgoingCallProceeding, Enquiring}
use Rattle.bx_calls.specs.declared.transition.Transition.{Transition}
use Rattle.bx_base.specs.Bookings.{Row}
use Rattle.bx_two_ends.specs.Answering.{said_in_octets, is_told, is_release, clears_by, is_clearing, is_enquired, contradicts, Spares, SparesAll, Clears}
use Rattle.bx_two_ends.specs.Asking.{is_asked, StandingUnasked}
use Rattle.bx_day.specs.Day.{Day, entry_at, is_live}
use Rattle.bx_two_ends.specs.Earning.{heard_in, is_going, IsCleared}
use Rattle.bx_day.specs.Invariant.{StandingFits}
use Rattle.bx_day.specs.Law.{OnLive, standing_at}
use Rattle.bx_day.specs.Moves.{follows}
use Rattle.bx_day.specs.Receipts.{names, hears}
use Rattle.bx_day.specs.Run.{receive_octets}
use Rattle.bx_day.specs.declared.entry.Activity.{Activity}
use Rattle.bx_day.specs.declared.entry.Entry.{Entry}
use Rattle.bx_day.specs.declared.entry.Standing.{Standing}
use Rattle.bx_day.specs.declared.entry.Standing.TheVariants.{OnCall}
use Rattle.bx_two_ends.proofs.Answering as answering
use Rattle.bx_two_ends.proofs.Answering.{put_off_clears, IsHearing, Passes, Idle, Called, is_up, awake_going, asked_going, going_row, heard_here, heard_other, heard_none, told_rest, and_none, fits_now, spared_now, spared_report, live_not_open, going_live, up_going, not_going, hears_next, clears_hears, going_or}
use Rattle.bx_two_ends.proofs.Asking.{awake_unasked, hears_awake}
use Rattle.bx_two_ends.proofs.Carrying.{settled_unasked}
use Rattle.bx_two_ends.proofs.Naming.{names_live}
use Rattle.bx_day.proofs.Hear.{heard_by}
use Rattle.bx_day.proofs.Once.{decide}
use Rattle.bx_day.proofs.Second.{call_of}

-- ---- a call that goes on still does, if it is not cleared

going_else : (b : Bool) (a : Activity) (t : ℕ) (x y : Transition PlainNetCall) → b ≡ false → is_going (follows a t y).standing ≡ true → is_going (follows a t (if b then x else y)).standing ≡ true
going_else b a t x y is h = subst (λ z. is_going (follows a t (if z then x else y)).standing ≡ true) (sym is) h

third_row : (r ch : ℕ) (o : NetOrigin) (a : Activity) (m : Heard) (t : ℕ) (k : Kind) → clears_by ch m k ≡ false → is_going (follows a t (net_row (call_of r ch o OutgoingCallProceeding) m t OutgoingCallProceeding k)).standing ≡ true
third_row r ch o a m t ReleaseComplete c = absurd (true≢false c)
third_row r ch o a m t Release c = absurd (true≢false c)
third_row r ch o a m t Disconnect c = absurd (true≢false c)
third_row r ch o a m t StatusEnquiry c = refl
third_row r ch o a m t Status c = going_else (reports_null m.state) a t _ _ c refl
third_row r ch o a m t k c = refl

call_row : (r ch : ℕ) (o : NetOrigin) (s : NetState) (a : Activity) (m : Heard) (t : ℕ) (k : Kind) → net_is_clearing s ≡ false → is_asked s ≡ false → clears_by ch m k ≡ false → is_going (follows a t (net_row (call_of r ch o s) m t s k)).standing ≡ true
call_row r ch o (Enquiring asked due) a m t k h n c = absurd (true≢false n)
call_row r ch o OutgoingCallProceeding a m t k h n c = third_row r ch o a m t k c
call_row r ch o s a m t k h n c = (going_row r ch o s a m t k h refl c).going

-- one that rings goes on
rung_going : (r ch : ℕ) (o : NetOrigin) (a : Activity) (t : ℕ) (reported : Option ℕ) → is_going (follows a t (net_to (call_of r ch o (net_rung t reported)) None (net_rung t reported))).standing ≡ true
rung_going r ch o a t reported = by_cases (is_alerted reported) _ _ (λ (x : NetState). is_going (follows a t (net_to (call_of r ch o x) None x)).standing ≡ true) (λ _. refl) (λ _. refl)

going_hears : (t : ℕ) (e : Entry) (m : Said) (s : Standing) → StandingFits t e s → clears_by e.channel m.heard m.heard.kind ≡ false → contradicts s m.heard ≡ false → is_going s ≡ true → is_going (hears m t s).standing ≡ true
going_hears t e m (OnCall c a) fits spared agrees h = heard_by (λ (x : Transition PlainNetCall). is_going (follows a t x).standing ≡ true) c m.heard t c.state m.heard.kind
    (record {
      contradicted = λ asked due is q. absurd (true≢false (sym q ∙ agrees));
      unacknowledged = λ asked due is q. refl;
      connected = λ due is q. refl;
      put_off = λ offer due is q. absurd (true≢false (sym (put_off_clears e.channel c.state m.heard m.heard.kind q) ∙ spared));
      unconnected = λ asked due is q. refl;
      ringing = λ due is q. rung_going c.reference c.channel c.origin a t m.heard.state;
    })
    (call_row c.reference c.channel c.origin (net_awake_state c.state) a m.heard t m.heard.kind (awake_going c.state (not_going (net_is_clearing c.state) h)) (awake_unasked c.state) (subst (λ ch. clears_by ch m.heard m.heard.kind ≡ false) (sym fits.channel) spared))
going_hears t e m s fits spared agrees h = absurd (false≢true h)

abbrev IsGoing : Entry → Type 0
IsGoing e = is_going e.standing ≡ true

going_octets : (rows : List Row) (assigned : List (Option ℕ)) (t i : ℕ) (octets : List ℕ) (d : Day) → IsHearing rows assigned t d → Spares octets d → IsGoing (entry_at d.entries i) → IsGoing (entry_at (receive_octets d octets).day.entries i)
going_octets rows assigned t i octets d h spares g = at (said_in_octets octets) refl
  where
    e : Entry
    e = entry_at d.entries i

    at : (o : Option Said) → said_in_octets octets ≡ o → IsGoing (entry_at (receive_octets d octets).day.entries i)
    at None is = heard_none IsGoing d octets i is g
    at (Some m) is = decide (names m e)
        (λ here. subst IsGoing (sym (heard_here rows assigned t d octets i m h is here)) (going_hears t e m e.standing (fits_now rows assigned t i d h) (spared_now d octets i m spares is g here) (spared_report d octets i m spares is g here) g))
        (λ other. heard_other IsGoing d octets i m is other g (λ op. absurd (live_not_open d e (going_live e.standing g) op)))

going_all : (rows : List Row) (assigned : List (Option ℕ)) (t i : ℕ) (received : List (List ℕ)) (d : Day) → IsHearing rows assigned t d → SparesAll received d → IsGoing (entry_at d.entries i) → IsGoing (entry_at (heard_in received d).entries i)
going_all rows assigned t i [] d h spares g = g
going_all rows assigned t i (octets ∷ rest) d h spares g = going_all rows assigned t i rest (receive_octets d octets).day (hears_next rows assigned t d octets h) spares.1 (going_octets rows assigned t i octets d h spares.0 g)

-- ---- any other: it has no call, is being cleared, is asked for, or is called

data GoesBy (e0 : Entry) (rest : List (List ℕ)) (e : Entry) : Type 0 where
  None_on : is_live e.standing ≡ false → GoesBy e0 rest e
  Begun : is_going e.standing ≡ true → StandingUnasked e.standing → GoesBy e0 rest e
  Enquired : is_enquired e.standing ≡ true → ((m : Said) → names m e ≡ names m e0) → is_told (λ m. true) e0 rest ≡ true → GoesBy e0 rest e
  Cleared : is_clearing e.standing ≡ true → ((m : Said) → names m e ≡ names m e0) → is_told (λ m. is_release m.kind) e0 rest ≡ true → GoesBy e0 rest e

up_unasked : (s : Standing) → is_up s ≡ true → StandingUnasked s
up_unasked (OnCall c a) h = settled_unasked c h
up_unasked s h = tt

unasked_from : (s : Standing) → is_enquired s ≡ false → StandingUnasked s
unasked_from (OnCall c a) h = h
unasked_from s h = tt

idle_unasked : (s : Standing) → is_live s ≡ false → StandingUnasked s
idle_unasked (OnCall c a) h = absurd (true≢false h)
idle_unasked s h = tt

by_passes : (e0 : Entry) (rest : List (List ℕ)) (e : Entry) → Passes e0 rest e → GoesBy e0 rest e
by_passes e0 rest e (Idle idle) = None_on idle
by_passes e0 rest e (Called up) = Begun (up_going e.standing up) (up_unasked e.standing up)
by_passes e0 rest e (answering.Clears clearing named told) = Cleared clearing named told

goes_octets : (rows : List Row) (assigned : List (Option ℕ)) (t i : ℕ) (e0 : Entry) (octets : List ℕ) (rest : List (List ℕ)) (d : Day) → IsHearing rows assigned t d → Spares octets d → GoesBy e0 (octets ∷ rest) (entry_at d.entries i) → GoesBy e0 rest (entry_at (receive_octets d octets).day.entries i)
goes_octets rows assigned t i e0 octets rest d h spares g = at (said_in_octets octets) refl g
  where
    e : Entry
    e = entry_at d.entries i

    at : (o : Option Said) → said_in_octets octets ≡ o → GoesBy e0 (octets ∷ rest) e → GoesBy e0 rest (entry_at (receive_octets d octets).day.entries i)
    at None is (None_on idle) = heard_none (GoesBy e0 rest) d octets i is (None_on idle)
    at None is (Begun going awake) = heard_none (GoesBy e0 rest) d octets i is (Begun going awake)
    at None is (Enquired asked named told) = heard_none (GoesBy e0 rest) d octets i is (Enquired asked named (told_rest (λ x. true) e0 octets rest None is refl told))
    at None is (Cleared clearing named told) = heard_none (GoesBy e0 rest) d octets i is (Cleared clearing named (told_rest (λ x. is_release x.kind) e0 octets rest None is refl told))
    at (Some m) is (None_on idle) = heard_other (GoesBy e0 rest) d octets i m is (false_from_ne_true (names m e) (λ named. true≢false (sym (names_live m e.standing named) ∙ idle))) (None_on idle) (λ op. Begun refl refl)
    at (Some m) is (Begun going awake) = decide (names m e)
        (λ here. subst (GoesBy e0 rest) (sym (heard_here rows assigned t d octets i m h is here)) (Begun (going_hears t e m e.standing (fits_now rows assigned t i d h) (spared_now d octets i m spares is going here) (spared_report d octets i m spares is going here) going) (hears_awake m t e.standing)))
        (λ other. heard_other (GoesBy e0 rest) d octets i m is other (Begun going awake) (λ op. absurd (live_not_open d e (going_live e.standing going) op)))
    at (Some m) is (Enquired asked named told) = decide (names m e)
        (λ here. (let going = asked_going e.standing asked in subst (GoesBy e0 rest) (sym (heard_here rows assigned t d octets i m h is here)) (Begun (going_hears t e m e.standing (fits_now rows assigned t i d h) (spared_now d octets i m spares is going here) (spared_report d octets i m spares is going here) going) (hears_awake m t e.standing))))
        (λ other. heard_other (GoesBy e0 rest) d octets i m is other (Enquired asked named (told_rest (λ x. true) e0 octets rest (Some m) is (and_none (names m e0) true (sym (named m) ∙ other)) told)) (λ op. absurd (live_not_open d e (going_live e.standing (asked_going e.standing asked)) op)))
    at (Some m) is (Cleared clearing named told) = decide (names m e)
        (λ here. subst (GoesBy e0 rest) (sym (heard_here rows assigned t d octets i m h is here)) (by_passes e0 rest _ (clears_hears t e0 e m octets rest e.standing is clearing named told)))
        (λ other. heard_other (GoesBy e0 rest) d octets i m is other (Cleared clearing named (told_rest (λ x. is_release x.kind) e0 octets rest (Some m) is (and_none (names m e0) (is_release m.heard.kind) (sym (named m) ∙ other)) told)) (λ op. Begun refl refl))

goes_all : (rows : List Row) (assigned : List (Option ℕ)) (t i : ℕ) (e0 : Entry) (received : List (List ℕ)) (d : Day) → IsHearing rows assigned t d → SparesAll received d → GoesBy e0 received (entry_at d.entries i) → GoesBy e0 [] (entry_at (heard_in received d).entries i)
goes_all rows assigned t i e0 [] d h spares g = g
goes_all rows assigned t i e0 (octets ∷ rest) d h spares g = goes_all rows assigned t i e0 rest (receive_octets d octets).day (hears_next rows assigned t d octets h) spares.1 (goes_octets rows assigned t i e0 octets rest d h spares.0 g)

-- ---- a turn

idle_cleared : (s : Standing) → is_live s ≡ false → OnLive s (λ c a. net_is_clearing c.state ≡ false)
idle_cleared (OnCall c a) h = absurd (true≢false h)
idle_cleared s h = tt

going_cleared : (s : Standing) → is_going s ≡ true → OnLive s (λ c a. net_is_clearing c.state ≡ false)
going_cleared (OnCall c a) h = not_going (net_is_clearing c.state) h
going_cleared s h = tt

cleared_at : (e0 e : Entry) → GoesBy e0 [] e → OnLive e.standing (λ c a. net_is_clearing c.state ≡ false)
cleared_at e0 e (None_on idle) = idle_cleared e.standing idle
cleared_at e0 e (Begun going awake) = going_cleared e.standing going
cleared_at e0 e (Enquired asked named told) = absurd (false≢true told)
cleared_at e0 e (Cleared clearing named told) = absurd (false≢true told)

awake_at : (e0 e : Entry) → GoesBy e0 [] e → StandingUnasked e.standing
awake_at e0 e (None_on idle) = idle_unasked e.standing idle
awake_at e0 e (Begun going awake) = awake
awake_at e0 e (Enquired asked named told) = absurd (false≢true told)
awake_at e0 e (Cleared clearing named told) = absurd (false≢true told)

goes_turn : (rows : List Row) (assigned : List (Option ℕ)) (t i : ℕ) (received : List (List ℕ)) (d : Day) → IsHearing rows assigned t d → Clears d received → GoesBy (entry_at d.entries i) [] (entry_at (heard_in received d).entries i)
goes_turn rows assigned t i received d h ok = goes_all rows assigned t i (entry_at d.entries i) received d h ok.spared
    (decide (is_going (standing_at d i))
    (λ going. decide (is_enquired (standing_at d i)) (λ asked. Enquired asked (λ m. refl) (ok.awake i asked)) (λ calm. Begun going (unasked_from (standing_at d i) calm)))
    (λ other. elim (going_or (standing_at d i) other) [ inl idle ↦ None_on idle | inr clearing ↦ Cleared clearing (λ m. refl) (ok.released i clearing) ]))

pub turn_cleared : (rows : List Row) (assigned : List (Option ℕ)) (t : ℕ) (received : List (List ℕ)) (d : Day) → IsHearing rows assigned t d → Clears d received → IsCleared d (heard_in received d)
turn_cleared rows assigned t received d h ok = record {
  cleared = λ i. cleared_at (entry_at d.entries i) (entry_at (heard_in received d).entries i) (goes_turn rows assigned t i received d h ok);
  awake = λ i. awake_at (entry_at d.entries i) (entry_at (heard_in received d).entries i) (goes_turn rows assigned t i received d h ok);
  kept = λ i going. going_live (standing_at (heard_in received d) i) (going_all rows assigned t i received d h ok.spared going);
}

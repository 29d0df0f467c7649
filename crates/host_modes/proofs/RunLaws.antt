-- What a run leaves, end by end.
use Rattle.std.proofs.Common.{◌≡◌, ℕ, List, Option, Some, None, refl, sym, subst, inl, inr, ◌≤◌, arith}
use Rattle.std.specs.Prelude.{◌≢◌, Ok, Err, ⊤}
use Rattle.plan_model.specs.declared.plan.Plan.{Plan}
use Rattle.plan_model.specs.declared.rule.Rule.{Rule}
use Rattle.gh_outside.specs.Causes.{Rose}
use Rattle.gh_outside.specs.Holdings.{Holding, KeepsOthers, GainsAll, GainsPrefix}
use Rattle.command_words.specs.Rendering.{RenderRequest}
use Rattle.command_words.specs.Requests.{render, compile, check, demo}
use Rattle.host_modes.specs.Asked.{Asked, IfRender}
use Rattle.host_modes.specs.Causes.{IsByWords, IsCaused, IsEndBy, IsReadEnd, Reads, Stops}
use Rattle.host_modes.specs.Ends.{IsEarly, IsOfFiles}
use Rattle.host_modes.specs.Outside.{outside, Outside}
use Rattle.host_modes.specs.Plans.{IsPlanUnder}
use Rattle.host_modes.specs.Readings.{IsBegun, IsWritten, MayHoldGraph}
use Rattle.host_modes.specs.Runs.{IsQuiet, IsRun, KeepsFiles}
use Rattle.engine_model.specs.Engines.{Parts}
use Rattle.host_modes.specs.Engines.{IsPlayed, IsWorkEngine}
use Rattle.host_modes.specs.Works.{IsAnswered, IsWork}
use Rattle.host_modes.specs.declared.ends.End.{End}
use Rattle.host_modes.specs.declared.ends.End.TheVariants.{Done, No, Words, SameName, Seed, Records, Graph as Checks, Wav, ReadFault, WriteFault, ReportFault, Memory, PlanText}

-- ---- files that stay
unbegun : (q : RenderRequest) (held : Option Holding) → IsBegun q held held
unbegun q None = tt
unbegun q (Some files) = inl refl

keeps_itself : (name : List ℕ) (held : Option Holding) → KeepsOthers name held held
keeps_itself name None = tt
keeps_itself name (Some files) = λ other differs. refl

if_render : (asked : Asked) (P : RenderRequest → Type 0) → ((q : RenderRequest) → P q) → IfRender asked P
if_render (Ok (render q)) P all = all q
if_render (Ok (compile q)) P all = tt
if_render (Ok (check q)) P all = tt
if_render (Ok (demo q)) P all = tt
if_render (Err fault) P all = tt

if_quiet : (asked : Asked) (P : RenderRequest → Type 0) → IsQuiet asked → IfRender asked P
if_quiet (Ok (render q)) P quiet = absurd quiet
if_quiet (Ok (compile q)) P quiet = tt
if_quiet (Ok (check q)) P quiet = tt
if_quiet (Ok (demo q)) P quiet = tt
if_quiet (Err fault) P quiet = tt

keeps_files : (asked : Asked) (held : Option Holding) → KeepsFiles asked held held
keeps_files (Ok (render q)) held = keeps_itself q.output held
keeps_files (Ok (compile q)) held = refl
keeps_files (Ok (check q)) held = refl
keeps_files (Ok (demo q)) held = refl
keeps_files (Err fault) held = refl

-- ---- the words
-- it is a request
abbrev IsGood : Asked → Type 0
IsGood (Ok r) = ⊤
IsGood (Err fault) = ⊥

-- of a request there is no other end by its words than that of two names that are one
module _ (q : RenderRequest) where
  pub render_words : (end : End) → (end ≡ Words → ⊥) → (end ≡ Seed → ⊥) → (end ≡ SameName → ⊥) → q.input ≢ q.output → IsByWords (Ok (render q)) end
  render_words end not_words not_seed not_same differs = record {
    words = (λ e. absurd (not_words e), λ e. absurd (cc));
    seed = (λ e. absurd (not_seed e), λ e. absurd (cc));
    same_name = (λ e. absurd (not_same e), λ same. absurd (differs same));
  }

  pub render_same : q.input ≡ q.output → IsByWords (Ok (render q)) SameName
  render_same same = record {
    words = (λ e. absurd (cc), λ e. absurd (cc));
    seed = (λ e. absurd (cc), λ e. absurd (cc));
    same_name = (λ e. same, λ e. inl refl);
  }

quiet_words : (asked : Asked) (end : End) → IsQuiet asked → (end ≡ Words → ⊥) → (end ≡ Seed → ⊥) → (end ≡ SameName → ⊥) → IsGood asked → IsByWords asked end
quiet_words (Ok (render q)) end quiet not_words not_seed not_same good = absurd quiet
quiet_words (Ok (compile q)) end quiet not_words not_seed not_same good =
    record { words = (λ e. absurd (not_words e), λ e. absurd (cc)); seed = (λ e. absurd (not_seed e), λ e. absurd (cc)); same_name = (λ e. absurd (not_same e), λ e. absurd e) }
quiet_words (Ok (check q)) end quiet not_words not_seed not_same good =
    record { words = (λ e. absurd (not_words e), λ e. absurd (cc)); seed = (λ e. absurd (not_seed e), λ e. absurd (cc)); same_name = (λ e. absurd (not_same e), λ e. absurd e) }
quiet_words (Ok (demo q)) end quiet not_words not_seed not_same good =
    record { words = (λ e. absurd (not_words e), λ e. absurd (cc)); seed = (λ e. absurd (not_seed e), λ e. absurd (cc)); same_name = (λ e. absurd (not_same e), λ e. absurd e) }
quiet_words (Err fault) end quiet not_words not_seed not_same good = absurd good

-- an end that files cause is none of them
pub of_files : (end : End) → IsOfFiles end → (end ≡ Words → ⊥) × (end ≡ Seed → ⊥) × (end ≡ SameName → ⊥)
of_files end is = (
  λ e. subst (λ (x : End). IsOfFiles x) e is,
  λ e. subst (λ (x : End). IsOfFiles x) e is,
  λ e. subst (λ (x : End). IsOfFiles x) e is,
)

pub early_of_files : (end : End) → IsOfFiles end → IsEarly end
early_of_files (Records fault) is = tt
early_of_files (Checks fault) is = tt
early_of_files (Wav fault) is = tt
early_of_files ReadFault is = tt
early_of_files (PlanText line) is = tt
early_of_files Memory is = tt
early_of_files Words is = tt
early_of_files Seed is = tt
early_of_files SameName is = tt
early_of_files Done is = is
early_of_files (No rule place) is = is
early_of_files WriteFault is = is
early_of_files ReportFault is = is

-- ---- an end before the report
early_played : (asked : Asked) (old new : Option Holding) (end : End) → IsEarly end → IsPlayed asked old new end None None
early_played (Ok (compile q)) old new end early = refl
early_played (Ok (check q)) old new end early = refl
early_played (Err fault) old new end early = refl
early_played (Ok (demo q)) old new Done early = absurd early
early_played (Ok (demo q)) old new ReportFault early = absurd early
early_played (Ok (demo q)) old new (No rule place) early = refl
early_played (Ok (demo q)) old new WriteFault early = refl
early_played (Ok (demo q)) old new Words early = refl
early_played (Ok (demo q)) old new SameName early = refl
early_played (Ok (demo q)) old new Seed early = refl
early_played (Ok (demo q)) old new (Records fault) early = refl
early_played (Ok (demo q)) old new (Checks fault) early = refl
early_played (Ok (demo q)) old new (Wav fault) early = refl
early_played (Ok (demo q)) old new ReadFault early = refl
early_played (Ok (demo q)) old new Memory early = refl
early_played (Ok (demo q)) old new (PlanText line) early = refl
early_played (Ok (render q)) old new Done early = absurd early
early_played (Ok (render q)) old new WriteFault early = absurd early
early_played (Ok (render q)) old new ReportFault early = absurd early
early_played (Ok (render q)) old new (No rule place) early = absurd early
early_played (Ok (render q)) old new ReadFault early = inl (refl, refl)
early_played (Ok (render q)) old new Words early = refl
early_played (Ok (render q)) old new SameName early = refl
early_played (Ok (render q)) old new Seed early = refl
early_played (Ok (render q)) old new (Records fault) early = refl
early_played (Ok (render q)) old new (Checks fault) early = refl
early_played (Ok (render q)) old new (Wav fault) early = refl
early_played (Ok (render q)) old new Memory early = refl
early_played (Ok (render q)) old new (PlanText line) early = refl

early_answered : (asked : Asked) (held : Option Holding) (end : End) (report : Option (List ℕ)) → IsEarly end → IsAnswered asked held end None report report
early_answered asked held Done report early = absurd early
early_answered asked held (No rule place) report early = absurd early
early_answered asked held WriteFault report early = absurd early
early_answered asked held ReportFault report early = absurd early
early_answered asked held Words report early = (refl, refl)
early_answered asked held SameName report early = (refl, refl)
early_answered asked held Seed report early = (refl, refl)
early_answered asked held (Records fault) report early = (refl, refl)
early_answered asked held (Checks fault) report early = (refl, refl)
early_answered asked held (Wav fault) report early = (refl, refl)
early_answered asked held ReadFault report early = inl (refl, refl)
early_answered asked held Memory report early = (refl, refl)
early_answered asked held (PlanText line) report early = (refl, refl)

pub stopped : (asked : Asked) (files : Option Holding) (reads later writes : ℕ) (report : Option (List ℕ)) (reports : ℕ) (end : End) → IsEarly end
    → IsByWords asked end → Stops (IsEndBy asked files) (Reads asked (Rose reads later)) end → reads ≤ later
    → IsRun asked (outside files reads writes report reports) (outside files later writes report reports) end None None
stopped asked files reads later writes report reports end early words stops more = record {
  by_words = words;
  done = λ is. absurd (subst (λ (e : End). IsEarly e) is early);
  begun = if_render asked (λ q. IsBegun q files files) (λ q. unbegun q files);
  others = keeps_files asked files;
  untouched = inr refl;
  answered = early_answered asked files end report early;
  played = early_played asked files files end early;
  cause = inl stops;
  reads = more;
  writes = omega arith;
  unwritten = inr refl;
  reports = omega arith;
  unreported = inr refl;
}

-- ---- reads before the rest of a run
reads_since : (asked : Asked) (A B : Type 0) → (A → B) → Reads asked A → Reads asked B
reads_since (Ok (render q)) A B f (differs, failed) = (differs, f failed)
reads_since (Ok (compile q)) A B f failed = f failed
reads_since (Ok (check q)) A B f failed = f failed
reads_since (Ok (demo q)) A B f failed = failed
reads_since (Err fault) A B f failed = failed

cause_since : (asked : Asked) (held : Option Holding) (A B writes reports : Type 0) (end : End) → (A → B) → IsCaused asked held A writes reports end
    → IsCaused asked held B writes reports end
cause_since asked held A B writes reports end f (inl (inl is)) = inl (inl is)
cause_since asked held A B writes reports end f (inl (inr (inl (is, failed)))) = inl (inr (inl (is, reads_since asked A B f failed)))
cause_since asked held A B writes reports end f (inl (inr (inr memory))) = inl (inr (inr memory))
cause_since asked held A B writes reports end f (inr more) = inr more

pub since : (asked : Asked) (files : Option Holding) (reads later writes : ℕ) (report : Option (List ℕ)) (reports : ℕ) (new : Outside) (end : End) (kept : Option Plan) (engine : Option Parts)
    → reads ≤ later → IsRun asked (outside files later writes report reports) new end kept engine → IsRun asked (outside files reads writes report reports) new end kept engine
since asked files reads later writes report reports new end kept engine more run = record {
  done = run.done;
  begun = run.begun;
  others = run.others;
  untouched = run.untouched;
  answered = run.answered;
  played = run.played;
  by_words = run.by_words;
  cause = cause_since asked files (Rose later new.read_faults) (Rose reads new.read_faults) (Rose writes new.write_faults) (Rose reports new.report_faults) end (λ r. omega (arith, r)) run.cause;
  reads = let rest = run.reads in omega (arith, rest);
  writes = run.writes;
  unwritten = run.unwritten;
  reports = run.reports;
  unreported = run.unreported;
}

-- the reading before a work that writes nothing, and before one that does
pub quiet_rest : (asked : Asked) (files held : Option Holding) (reads later writes same : ℕ) (report new : Option (List ℕ)) (reports after : ℕ) (end : End) (kept : Option Plan) (engine : Option Parts)
    → held ≡ files → same ≡ writes → reads ≤ later → IsRun asked (outside files later writes report reports) (outside files later writes new after) end kept engine
    → IsRun asked (outside files reads writes report reports) (outside held later same new after) end kept engine
quiet_rest asked files held reads later writes same report new reports after end kept engine keeps writes_are more run =
    subst (λ w. IsRun asked (outside files reads writes report reports) (outside held later w new after) end kept engine) (sym writes_are)
    (subst (λ h. IsRun asked (outside files reads writes report reports) (outside h later writes new after) end kept engine) (sym keeps)
    (since asked files reads later writes report reports (outside files later writes new after) end kept engine more run))

pub render_rest : (asked : Asked) (files held : Option Holding) (reads later writes same : ℕ) (report : Option (List ℕ)) (reports : ℕ) (new : Outside) (end : End) (kept : Option Plan) (engine : Option Parts)
    → held ≡ files → same ≡ writes → reads ≤ later → IsRun asked (outside held later same report reports) new end kept engine → IsRun asked (outside files reads writes report reports) new end kept engine
render_rest asked files held reads later writes same report reports new end kept engine keeps writes_are more run =
    since asked files reads later writes report reports new end kept engine more
    (subst (λ w. IsRun asked (outside files later w report reports) new end kept engine) writes_are
    (subst (λ h. IsRun asked (outside h later same report reports) new end kept engine) keeps run))

-- ---- the report
-- the engine where no file is written
played_quiet : (asked : Asked) (files : Option Holding) (plan : Plan) (engine : Option Parts) → IsQuiet asked → IsWorkEngine asked plan engine
    → IsPlayed asked files files Done (Some plan) engine × IsPlayed asked files files ReportFault (Some plan) engine
played_quiet (Ok (render q)) files plan engine quiet is = absurd quiet
played_quiet (Ok (compile q)) files plan engine quiet is = (is, is)
played_quiet (Ok (check q)) files plan engine quiet is = (is, is)
played_quiet (Ok (demo q)) files plan engine quiet is = (is, is)
played_quiet (Err fault) files plan engine quiet is = (is, is)

module _ (asked : Asked) (files : Option Holding) (reads writes : ℕ) (old new : Option (List ℕ)) (before after : ℕ) (plan : Plan) (text : List ℕ) (engine : Option Parts)
    (counted : before ≤ after) where
  -- it failed
  pub unreported : (end : End) → IsByWords asked ReportFault → IsWork asked files plan text end → IsPlayed asked files files ReportFault (Some plan) engine → GainsPrefix text old new → Rose before after
      → IsRun asked (outside files reads writes old before) (outside files reads writes new after) ReportFault (Some plan) engine
  unreported end words work played gains rose = record {
    by_words = words;
    done = λ is. absurd (cc);
    begun = if_render asked (λ q. IsBegun q files files) (λ q. unbegun q files);
    others = keeps_files asked files;
    untouched = inr refl;
    answered = (plan, text, end, refl, work, gains);
    played = played;
    cause = inr (inr (refl, rose, (plan, text, end, work)));
    reads = omega arith;
    writes = omega arith;
    unwritten = inr refl;
    reports = counted;
    unreported = inl (λ e. absurd (cc));
  }

  -- it was the last step
  last : (end : End) → IsQuiet asked → IsByWords asked end → IsEndBy asked files end → IsAnswered asked files end (Some plan) old new → IsPlayed asked files files end (Some plan) engine
      → IsRun asked (outside files reads writes old before) (outside files reads writes new after) end (Some plan) engine
  last end quiet words is answer played = record {
    by_words = words;
    done = λ e. if_quiet asked (λ q. IsWritten q files files) quiet;
    begun = if_quiet asked (λ q. IsBegun q files files) quiet;
    others = keeps_files asked files;
    untouched = inr refl;
    answered = answer;
    played = played;
    cause = inl (inl is);
    reads = omega arith;
    writes = omega arith;
    unwritten = inr refl;
    reports = counted;
    unreported = inl (λ e. absurd (cc));
  }

  last_done : IsQuiet asked → IsGood asked → IsEndBy asked files Done → IsWork asked files plan text Done → IsWorkEngine asked plan engine → GainsAll text old new → (end : End) → end ≡ Done
      → IsRun asked (outside files reads writes old before) (outside files reads writes new after) end (Some plan) engine
  last_done quiet good is work playing gains end done =
      subst (λ (e : End). IsRun asked (outside files reads writes old before) (outside files reads writes new after) e (Some plan) engine) (sym done)
      (last Done quiet (quiet_words asked Done quiet (λ e. absurd (cc)) (λ e. absurd (cc)) (λ e. absurd (cc)) good) is (plan, text, refl, work, gains)
      (played_quiet asked files plan engine quiet playing).0)

  last_no : IsQuiet asked → IsGood asked → (rule : Rule) (place : ℕ) → IsEndBy asked files (No rule place) → IsWork asked files plan text (No rule place) → GainsAll text old new
      → IsPlayed asked files files (No rule place) (Some plan) engine
      → IsRun asked (outside files reads writes old before) (outside files reads writes new after) (No rule place) (Some plan) engine
  last_no quiet good rule place is work gains played =
      last (No rule place) quiet (quiet_words asked (No rule place) quiet (λ e. absurd (cc)) (λ e. absurd (cc)) (λ e. absurd (cc)) good) is (plan, text, refl, work, gains) played

may_hold : (name : List ℕ) (mode : _) (held : Option Holding) (plan : Plan) → IsPlanUnder name mode held plan → MayHoldGraph name held
may_hold name mode None plan under = tt
may_hold name mode (Some files) plan (g, sound, found, best) = (g, found)

-- it took the text, and nothing is written after it
pub reported : (asked : Asked) (files : Option Holding) (reads writes : ℕ) (old new : Option (List ℕ)) (before after : ℕ) (plan : Plan) (text : List ℕ) (end : End) (engine : Option Parts)
    → before ≤ after → IsQuiet asked → IsWork asked files plan text end → IsWorkEngine asked plan engine → GainsAll text old new
    → IsRun asked (outside files reads writes old before) (outside files reads writes new after) end (Some plan) engine
reported (Ok (render q)) files reads writes old new before after plan text end engine counted quiet work playing gains = absurd quiet
reported (Err fault) files reads writes old new before after plan text end engine counted quiet work playing gains = absurd work
reported (Ok (compile q)) files reads writes old new before after plan text end engine counted quiet (under, is, done) playing gains =
    last_done (Ok (compile q)) files reads writes old new before after plan text engine counted tt tt (inr (refl, may_hold q.graph _ files plan under)) (under, is, refl) playing gains end done
reported (Ok (demo q)) files reads writes old new before after plan text end engine counted quiet (best, is, done) playing gains =
    last_done (Ok (demo q)) files reads writes old new before after plan text engine counted tt tt refl (best, is, refl) playing gains end done
reported (Ok (check q)) files reads writes old new before after plan text Done engine counted quiet (judged, is) playing gains =
    last_done (Ok (check q)) files reads writes old new before after plan text engine counted tt tt (inr (inr (plan, judged))) (judged, is) playing gains Done refl
reported (Ok (check q)) files reads writes old new before after plan text (No rule place) engine counted quiet (judged, is) playing gains =
    last_no (Ok (check q)) files reads writes old new before after plan text engine counted tt tt rule place (inr (inr (plan, judged))) (judged, is) gains playing
reported (Ok (check q)) files reads writes old new before after plan text Words engine counted quiet ((g, sound, found, there, says), is) playing gains = absurd says
reported (Ok (check q)) files reads writes old new before after plan text SameName engine counted quiet ((g, sound, found, there, says), is) playing gains = absurd says
reported (Ok (check q)) files reads writes old new before after plan text Seed engine counted quiet ((g, sound, found, there, says), is) playing gains = absurd says
reported (Ok (check q)) files reads writes old new before after plan text (Records fault) engine counted quiet ((g, sound, found, there, says), is) playing gains = absurd says
reported (Ok (check q)) files reads writes old new before after plan text (Checks fault) engine counted quiet ((g, sound, found, there, says), is) playing gains = absurd says
reported (Ok (check q)) files reads writes old new before after plan text (Wav fault) engine counted quiet ((g, sound, found, there, says), is) playing gains = absurd says
reported (Ok (check q)) files reads writes old new before after plan text ReadFault engine counted quiet ((g, sound, found, there, says), is) playing gains = absurd says
reported (Ok (check q)) files reads writes old new before after plan text WriteFault engine counted quiet ((g, sound, found, there, says), is) playing gains = absurd says
reported (Ok (check q)) files reads writes old new before after plan text ReportFault engine counted quiet ((g, sound, found, there, says), is) playing gains = absurd says
reported (Ok (check q)) files reads writes old new before after plan text Memory engine counted quiet ((g, sound, found, there, says), is) playing gains = absurd says
reported (Ok (check q)) files reads writes old new before after plan text (PlanText line) engine counted quiet ((g, sound, found, there, says), is) playing gains = absurd says

-- ---- a mode that stopped before its report
pub quiet_stopped : (asked : Asked) (files : Option Holding) (reads later writes : ℕ) (report : Option (List ℕ)) (reports : ℕ) (end : End) → IsQuiet asked → IsGood asked
    → IsOfFiles end → Stops (IsEndBy asked files) (Reads asked (Rose reads later)) end → reads ≤ later
    → IsRun asked (outside files reads writes report reports) (outside files later writes report reports) end None None
quiet_stopped asked files reads later writes report reports end quiet good is stops more =
    let others = of_files end is in
    stopped asked files reads later writes report reports end (early_of_files end is) (quiet_words asked end quiet others.0 others.1 others.2 good) stops more

good : (asked : Asked) (files : Option Holding) (plan : Plan) (text : List ℕ) (end : End) → IsWork asked files plan text end → IsGood asked
good (Ok r) files plan text end work = tt
good (Err fault) files plan text end work = absurd work

pub quiet_unreported : (asked : Asked) (files : Option Holding) (reads writes : ℕ) (old new : Option (List ℕ)) (before after : ℕ) (plan : Plan) (text : List ℕ) (end : End) (engine : Option Parts)
    → before ≤ after → IsQuiet asked → IsWork asked files plan text end → IsWorkEngine asked plan engine → GainsPrefix text old new → Rose before after
    → IsRun asked (outside files reads writes old before) (outside files reads writes new after) ReportFault (Some plan) engine
quiet_unreported asked files reads writes old new before after plan text end engine counted quiet work playing gains rose =
    unreported asked files reads writes old new before after plan text engine counted end
    (quiet_words asked ReportFault quiet (λ e. absurd (cc)) (λ e. absurd (cc)) (λ e. absurd (cc)) (good asked files plan text end work)) work
    (played_quiet asked files plan engine quiet playing).1 gains rose

-- ---- rendering that stopped
pub render_stopped : (q : RenderRequest) (files : Option Holding) (reads later writes : ℕ) (report : Option (List ℕ)) (reports : ℕ) (end : End) → q.input ≢ q.output
    → IsOfFiles end → Stops (IsReadEnd q files) (Rose reads later) end → reads ≤ later
    → IsRun (Ok (render q)) (outside files reads writes report reports) (outside files later writes report reports) end None None
render_stopped q files reads later writes report reports end differs is stops more =
    let others = of_files end is in
    stopped (Ok (render q)) files reads later writes report reports end (early_of_files end is) (render_words q end others.0 others.1 others.2 differs)
    (widened stops) more
  where
    widened : Stops (IsReadEnd q files) (Rose reads later) end → Stops (IsEndBy (Ok (render q)) files) (Reads (Ok (render q)) (Rose reads later)) end
    widened (inl cause) = inl (inr (differs, inl cause))
    widened (inr (inl (e, failed))) = inr (inl (e, (differs, failed)))
    widened (inr (inr memory)) = inr (inr memory)

pub same_stopped : (q : RenderRequest) (files : Option Holding) (reads writes : ℕ) (report : Option (List ℕ)) (reports : ℕ) → q.input ≡ q.output
    → IsRun (Ok (render q)) (outside files reads writes report reports) (outside files reads writes report reports) SameName None None
same_stopped q files reads writes report reports same =
    stopped (Ok (render q)) files reads reads writes report reports SameName tt (render_same q same) (inl (inl (same, refl))) (omega arith)

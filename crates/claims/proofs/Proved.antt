-- The three demands and the requests, proved by citing: the table's theorem and those of a tape's lines, the functions' proofs, demand 3 from fresh and from
-- any beginning, the law of every feeding, the promises of the time-stamps, the latch and the leftover bits, the claim of the saved form, the laws of a tape
-- that begins with a chip, and those of the event inputs.
-- Assumes nothing.
use mathlib.Core.Path.{sym, ◌∙◌}
use borrow.Author.Tests.{ne_eqb}
use Rattle.refusals.proofs.TableLaws.{exactly}
use Rattle.acts.proofs.OutcomeLaws.{answered_by_table, refused_same}
use Rattle.run.proofs.DemandThree.{demand_three_lem}
use Rattle.run.proofs.BeginAgrees.{demand_three_from, resumes}
use Rattle.run.proofs.ForgetfulLaws.{says_more}
use Rattle.run.proofs.LatchLaws.{latch}
use Rattle.run.proofs.LeftoverLaws.{leftover_bits_lem}
use Rattle.run.proofs.StampLaws.{time_stamps_lem}
use Rattle.run.proofs.WrongLaws.{wrong_chips_fail}
use Rattle.lines.proofs.LineLaws.{asks_exactly}
use Rattle.answers.proofs.AnswerLaws.{replies_shown_lem, refused_setup}
use Rattle.answers.proofs.JudgedLaws.{lines_judged}
use Rattle.feeding.proofs.BeginLaws.{chip_answers, cut_in_two, tape_runs}
use Rattle.feeding.proofs.FeedLaws.{any_feeding, any_resumed, resumed_accounted, cut_feeding_lem, resumes_with}
use Rattle.form.proofs.SavedLaws.{saved_right}
use Rattle.events.proofs.BeginLaws.{event_claims}
use Rattle.signals.proofs.ClaimLaws.{events_right}
use Rattle.signals.proofs.BeforeLaws.{as_before_lem}
use Rattle.acts.proofs.perform.Met as perform
use Rattle.batch.proofs.run.Met as run
use Rattle.batch.proofs.run_from.Met as run_from
use Rattle.batch.proofs.tekuravy_run.Met as tekuravy_run
use Rattle.tape.proofs.chunk.start.Met as start
use Rattle.tape.proofs.chunk.resume.Met as resume
use Rattle.tape.proofs.chunk.feed.Met as feed
use Rattle.tape.proofs.chunk.finish.Met as finish
use Rattle.saved.proofs.save.Met as save
use Rattle.saved.proofs.load.Met as load
use Rattle.export.proofs.ClaimLaws.{calls_right}
use Rattle.export.proofs.mcp795_new.Met as mcp795_new
use Rattle.calls.proofs.mcp795_act.Met as mcp795_act
use Rattle.export.proofs.mcp795_save.Met as mcp795_save
use Rattle.export.proofs.mcp795_load.Met as mcp795_load
use Rattle.claims.specs.Demands.{Total, Exact, Accountable, Resumed, Demands}

total : Total
total =
    record {
      table =
          λ part act arg w k. (
            λ e. (exactly part act arg w.device _ _ k).0 (sym (answered_by_table part act arg w) ∙ e),
            λ t. answered_by_table part act arg w ∙ (exactly part act arg w.device _ _ k).1 t,
          );
      unchanged = λ part act arg w n. refused_same part act arg w (ne_eqb _ 0 n);
      asks = asks_exactly;
      judged = lines_judged;
      line_unchanged = λ line s n. refused_setup line s (ne_eqb _ 0 n);
    }

exact : Exact
exact =
    record {
      perform = perform.met;
      run = run.met;
      tekuravy_run = tekuravy_run.met;
      run_from = run_from.met;
      start = start.met;
      resume = resume.met;
      feed = feed.met;
      finish = finish.met;
      save = save.met;
      load = load.met;
      mcp795_new = mcp795_new.met;
      mcp795_act = mcp795_act.met;
      mcp795_save = mcp795_save.met;
      mcp795_load = mcp795_load.met;
    }

accountable : Accountable
accountable =
    record {
      acts = demand_three_lem;
      begun = demand_three_from;
      more = says_more;
      resumed = resumes;
      tapes = any_feeding;
      wrong = wrong_chips_fail;
    }

resumed : Resumed
resumed =
    record {
      begins = resumes_with;
      answers = chip_answers;
      tapes = any_resumed;
      cut = cut_in_two;
      cut_feeding = cut_feeding_lem;
      runs = tape_runs;
      accounts = resumed_accounted;
    }

pub demands : Demands
demands =
    record {
      total = total;
      exact = exact;
      accountable = accountable;
      time_stamps = time_stamps_lem;
      latch = latch;
      leftover_bits = leftover_bits_lem;
      replies_shown = replies_shown_lem;
      saved = saved_right;
      resumed = resumed;
      calls = calls_right;
      event_moves = event_claims;
      event_runs = events_right;
      as_before = as_before_lem;
    }

-- Transcripts whose host restarted: what came before counts for nothing.
use Rattle.std.proofs.Common.{◌≡◌, ℕ, Bool, cond, not, ◌&&◌, ◌||◌, List, [], ◌∷◌, ◌++◌, Option, Some, None, refl, ◌∙◌, ap, ap₂}
use Rattle.std.proofs.Common.{append_assoc, sym}
use Rattle.std.specs.Prelude.{is_none, option_and_then, option_map, option_to_list}
use Rattle.std.specs.List.{list_any}
use Rattle.pm_table.specs.declared.cell.Cell.{Cell}
use Rattle.pm_table.specs.Cell.{is_output_cell, same_cell}
use Rattle.pm_host.specs.Answers.{good_word}
use Rattle.pm_host.specs.Marks.{Mark, Good, Put, Restart, Restored, goods, marks, put_by, puts, read_by}
use Rattle.pm_host.specs.Possible.{is_possible, possible_from, possible_of, words_since}
use Rattle.pm_host.specs.Transcript.{Accepted, Entry, Finished, Got, Job, Restarted, Setup, last_job_end, job_end, last_job, open_job}
use Rattle.pm_host.specs.Transcript.{told_since}
use Rattle.pm_world.specs.Confirmed.{is_good_for, reads}
use Rattle.pm_world.specs.Possible.{is_surprise_for, answer_surprises}
use Rattle.pm_world.specs.Uncertainty.{since_restart}

module _ (rest : List Entry) where
  last-same : (since : List Entry) → last_job (since ++ Restarted ∷ rest) ≡ last_job since
  last-same [] = refl
  last-same (Accepted job ∷ since) = refl
  last-same (Finished acked ∷ since) = last-same since
  last-same (Got bytes ∷ since) = last-same since
  last-same (Restarted ∷ since) = refl

  told-same : (since : List Entry) → told_since (since ++ Restarted ∷ rest) ≡ told_since since
  told-same [] = refl
  told-same (Accepted job ∷ since) = refl
  told-same (Finished acked ∷ since) = ap (λ (l : List Entry). Finished acked ∷ l) (told-same since)
  told-same (Got bytes ∷ since) = ap (λ (l : List Entry). Got bytes ∷ l) (told-same since)
  told-same (Restarted ∷ since) = refl

  -- the job that is open, the marks of what begins to be sent and of a good answer
  pub open-same : (setup : Setup) (since : List Entry) → open_job setup (since ++ Restarted ∷ rest) ≡ open_job setup since
  unfolding open_job last_job_end
  open-same setup since = ap₂ (λ (j : Option Job) (l : List Entry).
      cond (is_none (option_and_then (λ job. job_end setup job l) j)) j None) (last-same since) (told-same since)

  puts-same : (setup : Setup) (since : List Entry) → puts setup (since ++ Restarted ∷ rest) ≡ puts setup since
  unfolding puts
  puts-same setup since = ap₂ put_by (open-same setup since) (told-same since)

  goods-same : (setup : Setup) (since : List Entry) (bytes : List ℕ) → goods setup (since ++ Restarted ∷ rest) bytes ≡ goods setup since bytes
  unfolding goods
  goods-same setup since bytes = ap₂ (λ (j : Option Job) (l : List Entry). option_to_list (option_and_then
      (λ cell. option_map (λ word. Good cell word) (good_word setup.addr cell bytes)) (read_by j l))) (open-same setup since) (told-same since)

  marks-same : (setup : Setup) (since : List Entry) → marks setup (since ++ Restarted ∷ rest) ≡ marks setup since ++ Restart ∷ marks setup rest
  marks-same setup [] = refl
  marks-same setup (Accepted job ∷ since) = more (Accepted job) since (puts-same setup (Accepted job ∷ since)) (marks-same setup since) where
    more : (entry : Entry) (before : List Entry) → puts setup (entry ∷ before ++ Restarted ∷ rest) ≡ puts setup (entry ∷ before) →
        marks setup (before ++ Restarted ∷ rest) ≡ marks setup before ++ Restart ∷ marks setup rest →
        puts setup (entry ∷ before ++ Restarted ∷ rest) ++ marks setup (before ++ Restarted ∷ rest)
        ≡ (puts setup (entry ∷ before) ++ marks setup before) ++ Restart ∷ marks setup rest
    more entry before one other = ap₂ (λ (a b : List Mark). a ++ b) one other
        ∙ sym (append_assoc (puts setup (entry ∷ before)) (marks setup before) (Restart ∷ marks setup rest))
  marks-same setup (Finished acked ∷ since) =
      ap₂ (λ (a b : List Mark). a ++ b) (puts-same setup (Finished acked ∷ since)) (marks-same setup since)
      ∙ sym (append_assoc (puts setup (Finished acked ∷ since)) (marks setup since) (Restart ∷ marks setup rest))
  marks-same setup (Got bytes ∷ since) =
      ap₂ (λ (a b : List Mark). a ++ b) (puts-same setup (Got bytes ∷ since))
      (ap₂ (λ (a b : List Mark). a ++ b) (goods-same setup since bytes) (marks-same setup since)
      ∙ sym (append_assoc (goods setup since bytes) (marks setup since) (Restart ∷ marks setup rest)))
      ∙ sym (append_assoc (puts setup (Got bytes ∷ since)) (goods setup since bytes ++ marks setup since) (Restart ∷ marks setup rest))
  marks-same setup (Restarted ∷ since) = ap (λ (l : List Mark). Restart ∷ l) (marks-same setup since)

  -- a good answer for a cell
  pub reads-same : (setup : Setup) (since : List Entry) (cell : Cell) (told : Option Entry) →
      reads setup (since ++ Restarted ∷ rest) cell told ≡ reads setup since cell told
  reads-same setup since cell (Some (Got bytes)) = ap (list_any (is_good_for cell)) (goods-same setup since bytes)
  reads-same setup since cell (Some (Accepted job)) = refl
  reads-same setup since cell (Some (Finished acked)) = refl
  reads-same setup since cell (Some Restarted) = refl
  reads-same setup since cell None = refl

-- what came before a restart of the host isn't since it
pub newest-same : (rest since : List Entry) → since_restart (since ++ Restarted ∷ rest) ≡ since_restart since
newest-same rest [] = refl
newest-same rest (Accepted job ∷ since) = ap (λ (l : List Entry). Accepted job ∷ l) (newest-same rest since)
newest-same rest (Finished acked ∷ since) = ap (λ (l : List Entry). Finished acked ∷ l) (newest-same rest since)
newest-same rest (Got bytes ∷ since) = ap (λ (l : List Entry). Got bytes ∷ l) (newest-same rest since)
newest-same rest (Restarted ∷ since) = refl

-- the words that a cell may hold
words-same : (rest since : List Mark) (cell : Cell) → words_since (since ++ Restart ∷ rest) cell ≡ words_since since cell
words-same rest [] cell = refl
words-same rest (Restart ∷ since) cell = refl
words-same rest (Restored ∷ since) cell = ap (cond (is_output_cell cell) None) (words-same rest since cell)
words-same rest (Put put word ∷ since) cell =
    ap (λ (w : Option (List ℕ)). cond (same_cell put cell) (option_map (λ words. word ∷ words) w) w) (words-same rest since cell)
words-same rest (Good read word ∷ since) cell =
    ap₂ (λ (w v : Option (List ℕ)). cond (same_cell read cell) (Some (word ∷ [])) (cond (is_possible word (possible_from w)) v None))
    (words-same rest since read) (words-same rest since cell)

-- a good answer that wasn't possible
pub surprises-same : (setup : Setup) (rest since : List Entry) (cell : Cell) (told : Option Entry) →
    answer_surprises setup (since ++ Restarted ∷ rest) cell told ≡ answer_surprises setup since cell told
unfolding possible_of
surprises-same setup rest since cell (Some (Got bytes)) =
    ap₂ (λ (m g : List Mark). list_any (is_surprise_for cell m) g) (marks-same rest setup since) (goods-same rest setup since bytes)
    ∙ any (goods setup since bytes)
  where
    one : (good : Mark) → is_surprise_for cell (marks setup since ++ Restart ∷ marks setup rest) good ≡ is_surprise_for cell (marks setup since) good
    one (Good read word) = ap (λ (w : Option (List ℕ)). same_cell read cell && not (is_possible word (possible_from w))) (words-same
        (marks setup rest) (marks setup since) read)
    one (Put put word) = refl
    one Restored = refl
    one Restart = refl

    any : (l : List Mark) → list_any (is_surprise_for cell (marks setup since ++ Restart ∷ marks setup rest)) l
        ≡ list_any (is_surprise_for cell (marks setup since)) l
    any [] = refl
    any (good ∷ l) = ap₂ (λ (a b : Bool). a || b) (one good) (any l)
surprises-same setup rest since cell (Some (Accepted job)) = refl
surprises-same setup rest since cell (Some (Finished acked)) = refl
surprises-same setup rest since cell (Some Restarted) = refl
surprises-same setup rest since cell None = refl

-- Lines that were answered, one after another.
use Rattle.std.proofs.Common.{◌≡◌, ℕ, ◌+◌, List, [], ◌∷◌, ◌++◌, length, Option, refl, sym, ap, subst, ◌∙◌, append_assoc, append-nil, MatchOption, Some, Vec, Global, inl, inr, arith}
use Rattle.std.proofs.lemmas.List.{length-append}
use Rattle.std.proofs.KnownBytes.{Appends-nil, Appends-trans}
use Rattle.std.specs.Io.KnownBytes.{Appends}
use Rattle.canvas_model.specs.Client.{Client}
use Rattle.canvas_nodes.specs.GoesOn.{GoesOn}
use Rattle.canvas_daemon.specs.declared.fault.DaemonFault.{DaemonFault}
use Rattle.canvas_daemon.specs.declared.fault.DaemonFault.TheVariants.{Usage, BadLine, Memory, Device, Damaged, TooLarge}
use Rattle.canvas_daemon.specs.Faults.{IsMemoryOrDevice}
use Rattle.canvas_daemon.specs.Answered.{AnswersLine, HasJoined, IsUnreadable, PlaysEach, PlaysLine, WritesBlock, version_and_waiting_line}
use Rattle.canvas_daemon.specs.Edited.{HasEnded, EndsByFault, IsCutShort, IsLeftBy, IsLineCutBy, IsEditedToEnd, PlaysLines, PlaysAll, TakesLines}
use Rattle.canvas_daemon.proofs.Taking.{more_taken, nothing_taken}

-- one line more was answered
pub one_more : (old mid new : Client) (lines : List (List ℕ)) (line text answer : List ℕ) → PlaysEach old lines text mid → PlaysLine mid line answer new → PlaysEach old (lines ++ line ∷ []) (text ++ answer) new
one_more old mid new [] line text answer (none, same) plays =
    (answer, [], new, subst (λ (c : Client). PlaysLine c line answer new) same plays, (refl, refl), ap (λ (t : List ℕ). t ++ answer) none ∙ sym (append-nil answer))
one_more old mid new (first ∷ lines) line text answer (head, rest, between, plays_first, plays_rest, is) plays =
    (head, rest ++ answer, between, plays_first, one_more between mid new lines line rest answer plays_rest plays, ap (λ (t : List ℕ). t ++ answer) is ∙ append_assoc head rest answer)

-- the lines before this number were taken and answered
abbrev pub PlaysBefore : Client → (read left written after : Option (List ℕ)) → Client → ℕ → Type 0
PlaysBefore old read left written after new number = (plays : PlaysLines old read left written after new) × (length plays.lines + 1 ≡ number)

-- no line was answered yet
pub none_before : (client : Client) (read written : Option (List ℕ)) → PlaysBefore client read read written written client 1
none_before client read written = (record { lines = []; answers = []; taken = nothing_taken read; played = (refl, refl); is_written = Appends-nil written }, refl)

-- the next line was taken and answered
pub next_before : (old mid new : Client) (read between left written told after : Option (List ℕ)) (line : List ℕ) (number : ℕ) → PlaysBefore old read between written told mid number
    → TakesLines between left (line ∷ []) → AnswersLine mid line told after new → PlaysBefore old read left written after new (number + 1)
next_before old mid new read between left written told after line number (plays, counted) taken (answer, answers, appends) = (
  record {
    lines = plays.lines ++ line ∷ [];
    answers = plays.answers ++ answer;
    taken = more_taken read between left plays.lines (line ∷ []) plays.taken taken;
    played = one_more old mid new plays.lines line plays.answers answer plays.played answers;
    is_written = Appends-trans written told after plays.answers answer plays.is_written appends;
  },
  omega (arith, length-append plays.lines (line ∷ []), counted),
)

-- a line that was read is taken as a text
pub one_text : (read left : Option (List ℕ)) (next : Option (Vec ℕ Global)) (line : Vec ℕ Global) (text : List ℕ) → next ≡ Some line → text ≡ line.items
    → MatchOption next (TakesLines read left [] × HasEnded read left) (λ line. TakesLines read left (line.items ∷ [])) → TakesLines read left (text ∷ [])
one_text read left next line text is same taken =
    subst (λ (t : List ℕ). TakesLines read left (t ∷ [])) (sym same)
    (subst (λ (o : Option (Vec ℕ Global)). MatchOption o (TakesLines read left [] × HasEnded read left) (λ line. TakesLines read left (line.items ∷ []))) is taken)

-- where nothing more was taken or written
cut_short : (old mid : Client) (read left written after : Option (List ℕ)) → PlaysLines old read left written after mid → IsCutShort old read written after
cut_short old mid read left written after plays = record {
  lines = plays.lines;
  answers = plays.answers;
  new = mid;
  begins = (left, plays.taken);
  played = plays.played;
  is_written = plays.is_written;
}

-- a fault of the input ends the lines
pub cut_at_reading : (old mid : Client) (read between left written after : Option (List ℕ)) (fault : DaemonFault) → PlaysLines old read between written after mid → IsMemoryOrDevice fault → EndsByFault old read left written after fault
cut_at_reading old mid read between left written after Usage plays is = is
cut_at_reading old mid read between left written after (BadLine n) plays is = absurd is
cut_at_reading old mid read between left written after Memory plays is = cut_short old mid read between written after plays
cut_at_reading old mid read between left written after Device plays is = tt
cut_at_reading old mid read between left written after (Damaged segment offset) plays is = is
cut_at_reading old mid read between left written after TooLarge plays is = is

-- a fault of the next line ends the lines
pub cut_at_line : (old mid : Client) (read between left written told after : Option (List ℕ)) (line : List ℕ) (number : ℕ) (fault : DaemonFault) → PlaysBefore old read between written told mid number
    → TakesLines between left (line ∷ []) → IsLineCutBy number (IsUnreadable line) told after fault → EndsByFault old read left written after fault
cut_at_line old mid read between left written told after line number Usage plays taken cut = cut
cut_at_line old mid read between left written told after line number (BadLine n) (plays, counted) taken (is, unreadable, same) = record {
  lines = plays.lines;
  line = line;
  answers = plays.answers;
  new = mid;
  counted = is ∙ sym counted;
  taken = more_taken read between left plays.lines (line ∷ []) plays.taken taken;
  played = plays.played;
  unreadable = unreadable;
  is_written = subst (λ (o : Option (List ℕ)). Appends written o plays.answers) (sym same) plays.is_written;
}
cut_at_line old mid read between left written told after line number Memory (plays, counted) taken same =
    subst (λ (o : Option (List ℕ)). IsCutShort old read written o) (sym same) (cut_short old mid read between written told plays)
cut_at_line old mid read between left written told after line number Device plays taken cut = tt
cut_at_line old mid read between left written told after line number (Damaged segment offset) plays taken cut = cut
cut_at_line old mid read between left written told after line number TooLarge plays taken cut = cut

-- a client that had joined was cut in its lines
pub left_by_cut : (joined : Client) (read left written after : Option (List ℕ)) (fault : DaemonFault) → HasJoined joined → EndsByFault joined read left written after fault → IsLeftBy read left written after fault
left_by_cut joined read left written after Usage has cut = cut
left_by_cut joined read left written after (BadLine n) has cut = (joined, has, cut)
left_by_cut joined read left written after Memory has cut = inr (inl (joined, has, cut))
left_by_cut joined read left written after Device has cut = cut
left_by_cut joined read left written after (Damaged segment offset) has cut = cut
left_by_cut joined read left written after TooLarge has cut = cut

-- after all lines nothing more was written
pub left_at_end : (joined between : Client) (read left written told after : Option (List ℕ)) (fault : DaemonFault) → HasJoined joined → PlaysAll joined read left written told between → IsMemoryOrDevice fault
    → ((fault ≡ Device → ⊥) → after ≡ told) → IsLeftBy read left written after fault
left_at_end joined between read left written told after Usage has all is same = is
left_at_end joined between read left written told after (BadLine n) has all is same = absurd is
left_at_end joined between read left written told after Memory has all is same =
    let other : Memory ≡ Device → ⊥ = λ e. cc in
    inr (inl (joined, has, subst (λ (o : Option (List ℕ)). IsCutShort joined read written o) (sym (same other)) (cut_short joined between read left written told all.0)))
left_at_end joined between read left written told after Device has all is same = tt
left_at_end joined between read left written told after (Damaged segment offset) has all is same = is
left_at_end joined between read left written told after TooLarge has all is same = is

-- after all lines and the version nothing more was written
pub left_unshown : (joined between last : Client) (read left written answered told after : Option (List ℕ)) (fault : DaemonFault) → HasJoined joined → PlaysAll joined read left written answered between → GoesOn between last
    → Appends answered told (version_and_waiting_line last) → IsMemoryOrDevice fault → ((fault ≡ Device → ⊥) → after ≡ told) → IsLeftBy read left written after fault
left_unshown joined between last read left written answered told after Usage has all goes_on tells is same = is
left_unshown joined between last read left written answered told after (BadLine n) has all goes_on tells is same = absurd is
left_unshown joined between last read left written answered told after Memory has (plays, ended) goes_on tells is same =
    let other : Memory ≡ Device → ⊥ = λ e. cc in
    let told_all = Appends-trans written answered told plays.answers (version_and_waiting_line last) plays.is_written tells in
    inr (inr (record {
      lines = plays.lines;
      joined = joined;
      between = between;
      last = last;
      answers = plays.answers;
      has_joined = has;
      taken = plays.taken;
      at_end = ended;
      played = plays.played;
      goes_on = goes_on;
      is_written = subst (λ (o : Option (List ℕ)). Appends written o (plays.answers ++ version_and_waiting_line last)) (sym (same other)) told_all;
    }))
left_unshown joined between last read left written answered told after Device has all goes_on tells is same = tt
left_unshown joined between last read left written answered told after (Damaged segment offset) has all goes_on tells is same = is
left_unshown joined between last read left written answered told after TooLarge has all goes_on tells is same = is

-- all lines were answered, and then the version and the block were written
pub played_to_end : (joined between last : Client) (read left written answered told after : Option (List ℕ)) → HasJoined joined → PlaysAll joined read left written answered between → GoesOn between last
    → Appends answered told (version_and_waiting_line last) → WritesBlock last told after → IsEditedToEnd read left written after
played_to_end joined between last read left written answered told after has (plays, ended) goes_on tells (block, is_block, shows) = record {
  lines = plays.lines;
  joined = joined;
  between = between;
  last = last;
  answers = plays.answers;
  block = block;
  has_joined = has;
  taken = plays.taken;
  at_end = ended;
  played = plays.played;
  goes_on = goes_on;
  is_block = is_block;
  is_written = Appends-trans written told after (plays.answers ++ version_and_waiting_line last) block (Appends-trans written answered told plays.answers (version_and_waiting_line last) plays.is_written tells) shows;
}

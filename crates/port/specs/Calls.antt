-- A call by bytes: the session is loaded, the call acts on it as crate session's definition says, and the session is saved again. One definition,
-- `by_bytes`, serves every answer, every lent word and the bytes of every call.
use Rattle.std.specs.Prelude.{ℕ, Bool, cond, Option, Some, None, Result, Ok, Err, ◌||◌, List, length, replicate, ◌==◌, nat_lt}
use Rattle.std.proofs.lemmas.List.Edits.{sets}
use Rattle.session.specs.Numbers.{open_number, submit_number, submit_value, answer_number, reclaim_number, reclaim_length, reclaim_packets}
use Rattle.session.specs.Record.{is_bad_record}
use Rattle.session.specs.Open.{opened, opened_ring}
use Rattle.session.specs.Submit.{submitted, submitted_ring}
use Rattle.session.specs.declared.refusal.IsoRefusal.{IsoRefusal}
use Rattle.session.specs.declared.reply.IsoEvent.{IsoEvent}
use Rattle.session.specs.declared.reply.IsoReply.{IsoReply}
use Rattle.session.specs.declared.reply.IsoCompletion.{IsoCompletion}
use Rattle.session.specs.declared.reply.Reclaimed.{Reclaimed}
use Rattle.session.specs.declared.transfer.IsoChannelStart.{IsoChannelStart}
use Rattle.session.specs.declared.transfer.IsoTransfer.{IsoTransfer}
use Rattle.session.specs.declared.transfer.IsoSubmission.{IsoSubmission}
use Rattle.session.specs.declared.transfer.IsoSubmission.TheVariants.{Accepted, Cut}
use Rattle.session.specs.declared.transfer.Submitted.{Submitted}
use Rattle.session.specs.declared.types.IsoConfig.{IsoConfig}
use Rattle.session.specs.declared.types.IsoChannelState.{IsoChannelState}
use Rattle.port.specs.declared.answers.PortReply.{PortReply}
use Rattle.port.specs.declared.answers.PortReclaimed.{PortReclaimed}
use Rattle.port.specs.declared.answers.PortSubmitted.{PortSubmitted}
use Rattle.port.specs.declared.answers.PortTransfer.{PortTransfer}
use Rattle.port.specs.declared.tags.Tagged.{Tagged}
use Rattle.port.specs.Tags.{flag_tag, flag_of, speed_of, direction_of, mode_of, tagged, outcome_tagged}
use Rattle.port.specs.Layout.{layout_number, session_of, saved, requests_in, plans_in, kept, left_bytes}

-- what `call` gives for the session of the bytes, or what `refuse` gives for the number with which they are refused
abbrev pub by_bytes : {A : Type 0} → List ℕ → (ℕ → A) → (IsoChannelState → A) → A
by_bytes xs refuse call = cond (layout_number xs == 0) (call (session_of xs)) (refuse (layout_number xs))

-- the bytes afterwards, where the call leaves the session `after`: as they were where they are refused
abbrev pub bytes_by : List ℕ → (IsoChannelState → IsoChannelState) → List ℕ
bytes_by xs after = by_bytes xs (λ (n : ℕ). xs) (λ (s : IsoChannelState). left_bytes xs (after s))

-- lent words afterwards
abbrev pub words_by : List ℕ → List ℕ → (IsoChannelState → List ℕ) → List ℕ
words_by xs words after = by_bytes xs (λ (n : ℕ). words) after

-- ---- poll, cancel, reset and recover

abbrev pub port_reply : ℕ → ℕ → ℕ → PortReply
port_reply refusal taken halt = record { refusal = refusal; taken = taken; halt = halt }

abbrev pub reply_refused : ℕ → PortReply
reply_refused n = port_reply n 0 0

abbrev pub reply_port : IsoReply → PortReply
reply_port r = port_reply (answer_number r.answer) (flag_tag r.taken) (flag_tag r.halt)

abbrev pub reply_by : List ℕ → (IsoChannelState → IsoReply) → PortReply
reply_by xs call = by_bytes xs reply_refused (λ (s : IsoChannelState). reply_port (call s))

-- ---- the record check

abbrev pub check_by : List ℕ → ℕ
check_by xs = by_bytes xs (λ (n : ℕ). n) (λ (s : IsoChannelState). cond (is_bad_record s) 18 0)

-- ---- an event, where one is reported: 0 is no, any other number is yes

abbrev pub event_of : ℕ → ℕ → ℕ → Option IsoEvent
event_of reported unplugged hcint = cond (flag_of reported) (Some (record { unplugged = flag_of unplugged; hcint = hcint })) None

-- ---- reclaim

abbrev pub completed : Option IsoCompletion → ℕ
completed (Some c) = 1
completed None = 0

abbrev pub is_completed : Result (Option IsoCompletion) IsoRefusal → ℕ
is_completed (Ok completion) = completed completion
is_completed (Err r) = 0

abbrev pub completed_outcome : Option IsoCompletion → Tagged
completed_outcome (Some c) = outcome_tagged c.outcome
completed_outcome None = tagged 0 0 0

abbrev pub outcome_in : Result (Option IsoCompletion) IsoRefusal → Tagged
outcome_in (Ok completion) = completed_outcome completion
outcome_in (Err r) = tagged 0 0 0

abbrev pub reclaim_port : Result (Option IsoCompletion) IsoRefusal → ℕ → ℕ → PortReclaimed
reclaim_port a taken halt =
    record {
      refusal = reclaim_number a;
      completed = is_completed a;
      outcome = (outcome_in a).tag;
      fault = (outcome_in a).kind;
      word = (outcome_in a).word;
      length = reclaim_length a;
      packets = reclaim_packets a;
      taken = taken;
      halt = halt;
    }

abbrev pub not_completed : ℕ → ℕ → ℕ → PortReclaimed
not_completed n taken halt =
    record { refusal = n; completed = 0; outcome = 0; fault = 0; word = 0; length = 0; packets = 0; taken = taken; halt = halt }

abbrev pub reclaim_refused : ℕ → PortReclaimed
reclaim_refused n = not_completed n 0 0

abbrev pub reclaimed_port : Reclaimed → PortReclaimed
reclaimed_port r = reclaim_port r.answer (flag_tag r.taken) (flag_tag r.halt)

abbrev pub reclaim_by : List ℕ → (IsoChannelState → Reclaimed) → PortReclaimed
reclaim_by xs call = by_bytes xs reclaim_refused (λ (s : IsoChannelState). reclaimed_port (call s))

-- ---- submit. A kind that names nothing is refused with 18 and nothing is altered

abbrev pub by_kind : {A : Type 0} → ℕ → List ℕ → (ℕ → A) → (IsoChannelState → A) → A
by_kind kind xs refuse call = by_bytes xs refuse (λ (s : IsoChannelState). cond (nat_lt 3 kind) (refuse 18) (call s))

abbrev pub transfer_of : PortTransfer → IsoTransfer
transfer_of t =
    record {
      isochronous = (t.kind == 1);
      has_buffer = flag_of t.has_buffer;
      buffer_len = t.buffer_len;
      base = t.base;
      start_reading = t.start_reading;
      frame_reading = t.frame_reading;
      channel_free = flag_of t.channel_free;
      gate_program = flag_of t.gate_program;
      gate_enable = flag_of t.gate_enable;
      words = t.words;
    }

abbrev pub cut : IsoSubmission → ℕ
cut (Accepted id) = 0
cut Cut = 1

abbrev pub is_cut : Result IsoSubmission IsoRefusal → ℕ
is_cut (Ok submission) = cut submission
is_cut (Err r) = 0

abbrev pub not_started : ℕ → ℕ → ℕ → PortSubmitted
not_started value refusal cut =
    record {
      value = value;
      refusal = refusal;
      cut = cut;
      first = 0;
      hcchar = 0;
      hctsiz = 0;
      hcintmsk = 0;
      frame_count = 0;
      frames = replicate 64 0;
    }

-- the answer, with what the caller programs where the submission was the first; zeros where it was not
abbrev pub submit_port : Result IsoSubmission IsoRefusal → Option IsoChannelStart → PortSubmitted
submit_port a (Some start) =
    record {
      value = submit_value a;
      refusal = submit_number a;
      cut = is_cut a;
      first = 1;
      hcchar = start.hcchar;
      hctsiz = start.hctsiz;
      hcintmsk = start.hcintmsk;
      frame_count = start.frames.count;
      frames = start.frames.frames;
    }
submit_port a None = not_started (submit_value a) (submit_number a) (is_cut a)

abbrev pub submitted_port : Submitted → PortSubmitted
submitted_port r = submit_port r.answer r.start

abbrev pub submit_refused : ℕ → PortSubmitted
submit_refused n = not_started 0 n 0

abbrev pub submit_by : List ℕ → PortTransfer → List ℕ → List ℕ → PortSubmitted
submit_by xs t lengths ring =
    by_kind t.kind xs submit_refused (λ (s : IsoChannelState). submitted_port (submitted s (transfer_of t) lengths ring))

-- what the submission brings into use is written, whatever stood there
abbrev pub grown_bytes : List ℕ → IsoChannelState → List ℕ
grown_bytes xs s = kept (requests_in s) (plans_in s) xs s

abbrev pub submit_bytes : List ℕ → PortTransfer → List ℕ → List ℕ → List ℕ
submit_bytes xs t lengths ring =
    by_kind t.kind xs (λ (n : ℕ). xs) (λ (s : IsoChannelState). grown_bytes xs (submitted s (transfer_of t) lengths ring).session)

abbrev pub submit_ring : List ℕ → PortTransfer → List ℕ → List ℕ → List ℕ
submit_ring xs t lengths ring = by_kind t.kind xs (λ (n : ℕ). ring) (λ (s : IsoChannelState). submitted_ring s (transfer_of t) lengths ring)

-- ---- open. The bytes need not hold a session before

abbrev pub is_bad_names : ℕ → ℕ → ℕ → Bool
is_bad_names speed direction mode = nat_lt 2 speed || (nat_lt 1 direction || nat_lt 1 mode)

abbrev pub by_open : {A : Type 0} → List ℕ → Bool → (ℕ → A) → A → A
by_open xs bad refuse done = cond (nat_lt (length xs) 8488) (refuse 17) (cond bad (refuse 18) done)

abbrev pub config_by : ℕ → ℕ → ℕ → ℕ → ℕ → ℕ → ℕ → ℕ → IsoConfig
config_by speed direction mode interval size endpoint device mult =
    record {
      speed = speed_of speed;
      direction = direction_of direction;
      interval = interval;
      endpoint = endpoint;
      device = device;
      max_packet_size = size;
      mult = mult;
      mode = mode_of mode;
    }

abbrev pub open_by : List ℕ → Bool → IsoConfig → ℕ → ℕ
open_by xs bad cfg words = by_open xs bad (λ (n : ℕ). n) (open_number (opened cfg words).answer)

abbrev pub open_bytes : List ℕ → Bool → IsoConfig → ℕ → List ℕ
open_bytes xs bad cfg words = by_open xs bad (λ (n : ℕ). xs) (sets xs 0 (saved (opened cfg words).session))

abbrev pub open_ring : List ℕ → Bool → IsoConfig → List ℕ → List ℕ
open_ring xs bad cfg ring = by_open xs bad (λ (n : ℕ). ring) (opened_ring cfg ring)

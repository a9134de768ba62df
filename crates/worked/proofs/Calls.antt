-- A call's promise, with equal things in the places of what it was given. Assumes nothing.
use mathlib.Core.Path.{◌≡◌, ap, ◌∙◌}
use mathlib.Core.List.{List}
use Prim.Native.Nat.{ℕ}
use Rattle.session.specs.Session.{idle_session}
use Rattle.session.specs.Open.{opened, opened_ring}
use Rattle.session.specs.Submit.{submitted, submitted_ring}
use Rattle.session.specs.declared.open.Opened.{Opened}
use Rattle.session.specs.declared.types.IsoConfig.{IsoConfig}
use Rattle.session.specs.declared.types.IsoChannelState.{IsoChannelState}
use Rattle.session.specs.declared.transfer.IsoTransfer.{IsoTransfer}
use Rattle.session.specs.declared.transfer.Submitted.{Submitted}

pub answer_by : (s : IsoChannelState) (lengths ring : List ℕ) {t u : IsoTransfer} {r : Submitted} → t ≡ u → r ≡ submitted s t lengths ring
    → r.answer ≡ (submitted s u lengths ring).answer
answer_by s lengths ring e h = ap (λ (x : Submitted). x.answer) h ∙ ap (λ (t : IsoTransfer). (submitted s t lengths ring).answer) e

pub ring_by_lem : (s : IsoChannelState) (lengths ring : List ℕ) {t u : IsoTransfer} {after : List ℕ} → t ≡ u → after ≡ submitted_ring s t lengths ring
    → after ≡ submitted_ring s u lengths ring
ring_by_lem s lengths ring e h = h ∙ ap (λ (t : IsoTransfer). submitted_ring s t lengths ring) e

pub opened_as : (words : ℕ) {cfg made : IsoConfig} {o : Opened} → made ≡ cfg → o ≡ opened made words → o.session ≡ idle_session cfg
opened_as words e h = ap (λ (x : Opened). x.session) h ∙ ap idle_session e

pub ring_as : (ring : List ℕ) {cfg made : IsoConfig} {after : List ℕ} → made ≡ cfg → after ≡ opened_ring made ring → after ≡ opened_ring cfg ring
ring_as ring e h = h ∙ ap (λ (c : IsoConfig). opened_ring c ring) e

pub session_by : (lengths : List ℕ) {s z : IsoChannelState} {t u : IsoTransfer} {ring zeros : List ℕ} {r : Submitted} → s ≡ z → ring ≡ zeros → t ≡ u
    → r ≡ submitted s t lengths ring → r.session ≡ (submitted z u lengths zeros).session
session_by lengths {z = z} {t = t} {ring = ring} {zeros = zeros} a b e h =
    ap (λ (x : Submitted). x.session) h
    ∙ ap (λ (s : IsoChannelState). (submitted s t lengths ring).session) a
    ∙ ap (λ (words : List ℕ). (submitted z t lengths words).session) b
    ∙ ap (λ (t : IsoTransfer). (submitted z t lengths zeros).session) e

pub first_ring_by : (lengths : List ℕ) {s z : IsoChannelState} {t u : IsoTransfer} {ring zeros after : List ℕ} → s ≡ z → ring ≡ zeros → t ≡ u
    → after ≡ submitted_ring s t lengths ring → after ≡ submitted_ring z u lengths zeros
first_ring_by lengths {z = z} {t = t} {ring = ring} {zeros = zeros} a b e h =
    h
    ∙ ap (λ (s : IsoChannelState). submitted_ring s t lengths ring) a
    ∙ ap (λ (words : List ℕ). submitted_ring z t lengths words) b
    ∙ ap (λ (t : IsoTransfer). submitted_ring z t lengths zeros) e

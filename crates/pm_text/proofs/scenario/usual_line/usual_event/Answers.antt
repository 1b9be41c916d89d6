use Rattle.std.proofs.Common.{◌∙◌, List, ap, ℕ}
use Rattle.pm_text.specs.EventLines.{event_line}
use Rattle.pm_text.specs.Readers.{line_as}
use Rattle.pm_text.proofs.Scenarios.{deliver-reads, exchange-reads, finish-reads}
use Rattle.pm_text.proofs.scenario.usual_line.usual_event.Goals as goal

pub returns-then-is_deliver_whole : goal.returns-then-is_deliver_whole
returns-then-is_deliver_whole c = λ form number done.
    ap (λ (text : List ℕ). line_as (event_line form) (number, text)) (c.is_deliver_whole.ensures c.if-is_deliver_whole.true)
    ∙ deliver-reads form number

pub returns-then-is_finish_ack : goal.returns-then-is_finish_ack
returns-then-is_finish_ack c = λ form number done.
    ap (λ (text : List ℕ). line_as (event_line form) (number, text)) (c.is_finish_ack.ensures c.if-is_finish_ack.true)
    ∙ finish-reads form number

pub returns-then-is_exchange_whole : goal.returns-then-is_exchange_whole
returns-then-is_exchange_whole c = λ form number done.
    ap (λ (text : List ℕ). line_as (event_line form) (number, text)) (c.is_exchange_whole.ensures c.if-is_exchange_whole.true)
    ∙ exchange-reads form number

use Rattle.pm_law_tests.specs.ByName.{BeginsShort, CameInBytes, GoesThrough, IsAhead, IsReached, IsShort}
use Rattle.pm_law_tests.proofs.laws.laws_by_name.Goals as goal

pub returns : goal.returns
unfolding IsAhead GoesThrough IsReached CameInBytes IsShort BeginsShort
returns c = record {
  ahead = λ config passes order cell word arrivals acked before sound made taken asks room.
      c.honest_orders_go_through.ensures.taken config passes before order cell word arrivals acked sound made taken asks room;
  through = λ config passes cell word acked events. c.ways_are_followed.ensures.ahead config passes events cell word acked;
  reached = c.bands_are_exact.ensures;
  came = c.answers_come_in_bytes.ensures;
  words = c.possible_words_are_exact.ensures.words;
}

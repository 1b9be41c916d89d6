-- What a packet carries, seen as its bytes.
use Rattle.std.specs.Prelude.{option_map}
use Rattle.pm_trace.specs.Otherwise.{ContentBytes}
use Rattle.pm_trace.specs.declared.content.Content.{Content}

abbrev pub content_in : Content → ContentBytes
content_in c = record { page = c.page; code = c.code; written = c.written.now; answer = option_map (λ bytes. bytes.now) c.answer }

-- A delivery in a caller's memory. This project's own choice.
use Rattle.std.specs.Prelude.{ℕ, ◌==◌, ◌&&◌, nat_lt, Bool}
use Rattle.pm_delivery.specs.declared.delivery.Delivery.{Delivery}
use Rattle.pm_memory.specs.declared.delivery_image.DeliveryImage.{DeliveryImage}

-- a delivery in memory: the bytes 'DP', and the number of the layout
abbrev pub delivery_mark : ℕ
delivery_mark = 0x5044

abbrev pub delivery_version : ℕ
delivery_version = 2

abbrev pub delivery_image : Delivery → DeliveryImage
delivery_image d = record { mark = delivery_mark; version = delivery_version; delivery = d }

-- the memory holds a delivery of this version, of an output that there can be
abbrev pub is_delivery : DeliveryImage → Bool
is_delivery i = i.mark == delivery_mark && (i.version == delivery_version && nat_lt i.delivery.output 8)

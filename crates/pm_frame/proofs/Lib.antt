mod Layouts
mod PacketErrorCode
mod SharedCodes
